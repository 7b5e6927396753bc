-- The loop that clones one slot after another.
use Rattle.starlark_hash.proofs.Common.{◌≡◌, ℕ, zero, suc, ◌+◌, ◌<◌, ◌≤◌, List, [], ◌∷◌, length, take, Option, None, get_or, arith, add-one, common_steps, AllZip, set}
use Rattle.starlark_table.specs.Table.{IsSlotClone}
use Rattle.starlark_table.specs.Layout.{at, slot_tag, IsTagged}
use Rattle.starlark_table.proofs.SlotTags.{tagged-changed}

module _ {X : Type 0} (R : X → X → Type 0) where
  zip_one_more : (xs ys : List X) (i : ℕ) (d o : X) → length ys ≡ length xs → i < length xs → AllZip R (take i xs) (take i ys) → R (get_or xs i d) o
      → AllZip R (take (suc i) xs) (take (suc i) (set ys i o))
  zip_one_more [] ys i d o same below all r = absurd (omega arith)
  zip_one_more (x ∷ xs) [] i d o same below all r = absurd (omega arith)
  zip_one_more (x ∷ xs) (y ∷ ys) zero d o same below all r = (r, tt)
  zip_one_more (x ∷ xs) (y ∷ ys) (suc i) d o same below all r = (all.0, zip_one_more xs ys i d o (omega (arith, same)) (omega arith) all.1 r)

module _ {T : Type 0} (is_clone : T → T → Type 0) where
  -- the first i slots are cloned, and the others are empty
  pub record Cloned (slots copy : List (Option (ℕ × T))) (tags : List ℕ) (i : ℕ) : Type 0 where
    pub sized : length copy ≡ length slots
    pub tagged : IsTagged tags copy
    pub cloned : AllZip (IsSlotClone is_clone) (take i slots) (take i copy)
    pub empty : (k : ℕ) → i ≤ k → at copy k ≡ None

  pub cloned-next : (slots copy new : List (Option (ℕ × T))) (tags tags' : List ℕ) (i t : ℕ) (o : Option (ℕ × T)) → i < length slots
      → Cloned slots copy tags i → IsSlotClone is_clone (at slots i) o → new ≡ set copy i o → tags' ≡ set tags i t → t ≡ slot_tag o
      → Cloned slots new tags' (i + 1)
  cloned-next slots copy new tags tags' i t o below k clone is same its =
      let tagged : IsTagged tags' new = rw (is, same) (tagged-changed tags copy i t o (omega arith) k.tagged its) in
      let cloned : AllZip (IsSlotClone is_clone) (take (i + 1) slots) (take (i + 1) new) =
      rw (is, add-one) (zip_one_more (IsSlotClone is_clone) slots copy i None o k.sized below k.cloned clone) in
      grind (arith, common_steps, k.empty)
