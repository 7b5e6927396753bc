-- The layout of slots depends on their hashes alone.
use Rattle.starlark_hash.proofs.Common.{◌≡◌, ℕ, suc, List, [], ◌∷◌, length, Option, Some, None, IsSome, get_or, refl, sym, ◌∙◌, ap, arith, map, AllZip, set, length-map, Bor, Mut}
use Rattle.std.proofs.Math.ListN.{get_or-map}
use Rattle.std.proofs.Math.Seq.{map-set_same}
use Rattle.starlark_table.specs.Table.{filled, IsSlotClone}
use Rattle.starlark_table.specs.Walk.{ReplacesEach}
use Rattle.starlark_table.specs.Layout.{at, slot_tag, IsTagged, IsSound}

-- how many hashes there are
abbrev count_full : List (Option ℕ) → ℕ
count_full [] = 0
count_full (None ∷ hashes) = count_full hashes
count_full (Some h ∷ hashes) = suc (count_full hashes)

module _ {T : Type 0} where
  abbrev hash_of : Option (ℕ × T) → Option ℕ
  hash_of None = None
  hash_of (Some m) = Some m.0

  -- the hash at each slot
  abbrev pub shape : List (Option (ℕ × T)) → List (Option ℕ)
  shape slots = map hash_of slots

  length-filled : (slots : List (Option (ℕ × T))) → length (filled slots) ≡ count_full (shape slots)
  length-filled [] = refl
  length-filled (o ∷ slots) = grind (arith, length-filled slots)

  full_by_hash : (o : Option (ℕ × T)) (h : ℕ) → hash_of o ≡ Some h → (x : T) × (o ≡ Some (h, x))
  full_by_hash None h e = absurd (cc)
  full_by_hash (Some (k, x)) h e = (x, grind arith)

  module _ (old new : List (Option (ℕ × T))) (same : shape new ≡ shape old) where
    pub same_length : length new ≡ length old
    same_length = simp length-map at (ap length same)

    same_hash_at : (p : ℕ) → hash_of (at new p) ≡ hash_of (at old p)
    same_hash_at p = sym (get_or-map hash_of new p None) ∙ ap (λ l. get_or l p None) same ∙ get_or-map hash_of old p None

    same_slot_tag : (p : ℕ) → slot_tag (at new p) ≡ slot_tag (at old p)
    same_slot_tag p = grind (arith, same_hash_at p)

    full_in_both : (p : ℕ) → IsSome (at old p) → IsSome (at new p)
    full_in_both p some = grind (arith, same_hash_at p)

    there_before : (p h : ℕ) (y : T) → at new p ≡ Some (h, y) → (x : T) × (at old p ≡ Some (h, x))
    there_before p h y e = full_by_hash (at old p) h (sym (same_hash_at p) ∙ ap hash_of e)

    pub reshaped : (tags : List ℕ) (count far : ℕ) → IsSound old tags count far → IsSound new tags count far
    reshaped tags count far sound =
        grind (arith, same_length, length-filled old, length-filled new, same_slot_tag, full_in_both, there_before)

module _ {F T : Type 0} (g : Mut F (Bor T × Unit {0}) T) where
  pub shape-replaced : (old new : List (Option (ℕ × T))) (f last : F) → ReplacesEach g f old new last → shape new ≡ shape old
  shape-replaced [] new f last r = ap shape r.0
  shape-replaced (None ∷ old) new f last (rest, is, more) = cc (is, shape-replaced old rest f last more)
  shape-replaced (Some (h, x) ∷ old) new f last (y, next, rest, called, is, more) = cc (is, shape-replaced old rest next last more)

module _ {T : Type 0} (is_clone : T → T → Type 0) where
  pub shape-cloned : (old new : List (Option (ℕ × T))) → AllZip (IsSlotClone is_clone) old new → shape new ≡ shape old
  shape-cloned [] [] all = refl
  shape-cloned [] (p ∷ new) all = absurd all
  shape-cloned (o ∷ old) [] all = absurd all
  shape-cloned (o ∷ old) (p ∷ new) all = grind (arith, shape-cloned old new all.1)

  -- clones with their own tags are laid out like the slots they were made of
  pub sound-cloned : (old new : List (Option (ℕ × T))) (tags tags' : List ℕ) (count far : ℕ) → IsSound old tags count far
      → AllZip (IsSlotClone is_clone) old new → IsTagged tags' new → IsSound new tags' count far
  sound-cloned old new tags tags' count far sound all tagged =
      grind (arith, reshaped old new (shape-cloned old new all) tags count far sound)

module _ {T : Type 0} (w : T) where
  -- writing another item into a full slot keeps the invariant
  pub sound-written : (slots : List (Option (ℕ × T))) (i : ℕ) (m : ℕ × T) (tags : List ℕ) (count far : ℕ) → at slots i ≡ Some m
      → IsSound slots tags count far → IsSound (set slots i (Some (m.0, w))) tags count far
  sound-written slots i m tags count far e =
      reshaped slots (set slots i (Some (m.0, w))) (map-set_same hash_of slots i (Some (m.0, w)) None (sym (ap hash_of e))) tags count far
