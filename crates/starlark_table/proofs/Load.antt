-- How many members the slots have, and that an empty slot is left.
use Rattle.starlark_hash.proofs.Common.{◌≡◌, ◌≢◌, ℕ, zero, suc, add-one, length-append, ◌+◌, ◌*◌, ◌^◌, ◌<◌, ◌≤◌, List, [], ◌∷◌, ◌++◌, length, Option, Some, None, arith, refl, IsPermutation, ◌∙◌, ap, common_steps, length_permutation, IsPermutation-trans, IsPermutation-sym, IsPermutation-middle, IsPermutation-append_right, set}
use Rattle.std.proofs.Common.{replicate}
use Rattle.std.proofs.lemmas.List.Sorted.{IsPermutation-append_left}
use Rattle.std.proofs.lemmas.List.{length-replicate}
use Rattle.starlark_table.specs.Table.{filled}
use Rattle.starlark_table.specs.Layout.{at, tags_of_empty, IsSound}
use Rattle.starlark_table.specs.Growth.{limit}
use Rattle.starlark_table.proofs.Bag.{filled-set_none, filled-set_some}
use Rattle.starlark_table.proofs.TagCount.{tag_count-some}

module _ {T : Type 0} where
  -- if there are fewer members than slots, a slot is empty
  pub empty_slot : (slots : List (Option (ℕ × T))) → length (filled slots) < length slots
      → (q : ℕ) × (q < length slots) × (at slots q ≡ None)
  empty_slot [] less = absurd (omega arith)
  empty_slot (None ∷ slots) less = (0, omega arith, refl)
  empty_slot (Some m ∷ slots) less =
      let rest = empty_slot slots (omega arith) in (rest.0 + 1, omega (arith, rest.1), rw add-one rest.2)

  pub another_empty_slot : (slots : List (Option (ℕ × T))) (slot : ℕ) (m : ℕ × T) → slot < length slots
      → length (filled slots) ≤ limit (length slots) → at slots slot ≡ Some m
      → (q : ℕ) × (q < length (set slots slot None)) × (q ≢ slot) × (at (set slots slot None) q ≡ None)
  another_empty_slot slots slot m slot_in load full =
      let q = empty_slot slots (omega arith) in
      (q.0, grind (arith, common_steps), grind arith, grind (arith, common_steps))

  -- a table that has slots has an empty one
  pub sound-empty_slot : (slots : List (Option (ℕ × T))) (tags : List ℕ) (count far : ℕ) → IsSound slots tags count far → 0 < length slots
      → (q : ℕ) × (q < length slots) × (at slots q ≡ None)
  sound-empty_slot slots tags count far s some = empty_slot slots (omega (arith, s.counted, s.load))

module _ {T : Type 0} where
  pub filled-append : (xs ys : List (Option (ℕ × T))) → filled (xs ++ ys) ≡ filled xs ++ filled ys
  filled-append [] ys = refl
  filled-append (None ∷ xs) ys = filled-append xs ys
  filled-append (Some m ∷ xs) ys = ap (λ l. m ∷ l) (filled-append xs ys)

  pub filled-replicate : (n : ℕ) → filled {T = T} (replicate n None) ≡ []
  filled-replicate zero = refl
  filled-replicate (suc n) = filled-replicate n

  -- moving a member from its old slot to a new one keeps the bag of both lists
  pub bag-member_moved : (all : List (ℕ × T)) (old slots : List (Option (ℕ × T))) (from slot : ℕ) (m : ℕ × T)
      → at old from ≡ Some m → slot < length slots → at slots slot ≡ None
      → IsPermutation all (filled old ++ filled slots)
      → IsPermutation all (filled (set old from None) ++ filled (set slots slot (Some m)))
  bag-member_moved all old slots from slot m here slot_in empty bag =
      IsPermutation-trans _ _ _ bag (IsPermutation-trans _ _ _ (IsPermutation-append_left (filled slots) _ _ (filled-set_none old from m here))
      (IsPermutation-trans _ _ _ (IsPermutation-sym _ _ (IsPermutation-middle _ m (filled slots)))
      (IsPermutation-append_right (filled (set old from None)) _ _ (filled-set_some slots slot m slot_in empty))))

  pub empty_slot-while_moving : (all : List (ℕ × T)) (old slots : List (Option (ℕ × T))) → 0 < length slots
      → length all ≤ limit (length slots)
      → IsPermutation all (filled old ++ filled slots) → (q : ℕ) × (q < length slots) × (at slots q ≡ None)
  empty_slot-while_moving all old slots some room bag =
      empty_slot slots (omega (arith, length_permutation all (filled old ++ filled slots) bag, length-append (filled old) (filled slots)))

  pub sound-all_empty : (items : List (Option (ℕ × T))) (tags : List ℕ) (count : ℕ) → items ≡ replicate count None
      → tags ≡ tags_of_empty count → 0 < count → (k : ℕ) × (count ≡ 8 * 2 ^ k) → IsSound items tags 0 0 × (filled items ≡ [])
  sound-all_empty items tags count e f some doubled =
      let none : filled items ≡ [] = ap filled e ∙ filled-replicate count in
      let sized : length items ≡ count = ap length e ∙ length-replicate count None in
      (grind (arith, common_steps, tag_count-some), none)
