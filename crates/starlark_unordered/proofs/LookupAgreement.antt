-- Conditions for the look-ups of two lists of pairs to agree, and for those of clones.
use Rattle.starlark_hash.proofs.Common.{◌≡◌, Bool, true, List, [], ◌∷◌, Option, None, arith, count_by, is_some, IsEquivalence, AllZip, keys_of, Drains, ℕ, Some, refl, All, HashWrites, All-cons, All-head, All-tail, common_steps}
use Rattle.starlark_unordered.specs.Bag.{same_bag}
use Rattle.starlark_unordered.specs.BagLaws.{counts_from_bag, pair_equiv}
use Rattle.starlark_unordered.specs.Lookup.{found}
use Rattle.starlark_hash.specs.Clone.{IsEqualClone, IsPairClone}
use Rattle.starlark_hash.specs.Unit.{StepsBeside, same_unit, unit_equiv}
use Rattle.starlark_unordered.specs.Pairs.{pair_eq}
use Rattle.starlark_unordered.proofs.Lists.{none_counted, nothing, same_key}
use Rattle.std.proofs.Math.Bool.{and-true}
use Rattle.starlark_table.specs.Table.{filled, items_in, IsSlotClone}
use Rattle.starlark_unordered.specs.Sound.{IsKeyed, keyed, home_of}
use Rattle.starlark_unordered.proofs.Keys.{counts-keyed, distinct_pairs}

module _ {K V : Type 0} where
  -- if each list has as many keys that pass, both look-ups find a key or neither does
  pub agree : (t : K → Bool) (ps qs : List (K × V)) → count_by (λ p. t p.0) ps ≡ count_by (λ p. t p.0) qs → is_some (found t ps) ≡ is_some (found t qs)
  unfolding found
  agree t ps qs same = grind (arith, none_counted t ps, none_counted t qs, nothing t ps, nothing t qs, same)

  -- clones of pairs, where the clone of a key is equal to the key
  module _ (eq : K → K → Bool) (laws : IsEquivalence eq) (key : K → K → Type 0) (value : V → V → Type 0) (equal : IsEqualClone eq key) where
    counts-cloned : (k : K) (ps qs : List (K × V)) → AllZip (IsPairClone key value) ps qs → count_by (λ p. eq k p.0) qs ≡ count_by (λ p. eq k p.0) ps
    counts-cloned k [] [] all = refl
    counts-cloned k (p ∷ ps) (q ∷ qs) all = grind (arith, common_steps, same_key eq laws p.0 q.0 k (equal p.0 q.0 all.0.0), counts-cloned k ps qs all.1)
    counts-cloned k ps qs all = absurd all

    pub found-cloned : (ps qs : List (K × V)) → AllZip (IsPairClone key value) ps qs → (k : K) → is_some (found (eq k) qs) ≡ is_some (found (eq k) ps)
    found-cloned ps qs all k = agree (eq k) qs ps (counts-cloned k ps qs all)

  pub keys-cloned : (key : K → K → Type 0) (value : V → V → Type 0) (ps qs : List (K × V)) → AllZip (IsPairClone key value) ps qs → AllZip key (keys_of ps) (keys_of qs)
  keys-cloned key value [] [] all = tt
  keys-cloned key value (p ∷ ps) (q ∷ qs) all = (all.0.0, keys-cloned key value ps qs all.1)
  keys-cloned key value ps qs all = absurd all

module _ {T : Type 0} (eq : T → T → Bool) (laws : IsEquivalence eq) where
  -- equal sets have the same elements
  pub found-equal : (ps qs : List (T × Unit {0})) → same_bag (pair_eq eq same_unit) ps qs ≡ true → (k : T) → is_some (found (eq k) ps) ≡ is_some (found (eq k) qs)
  found-equal ps qs same k =
      agree (eq k) ps qs (simp and-true at (counts_from_bag (pair_eq eq same_unit) (pair_equiv eq same_unit laws unit_equiv) ps qs same (k, tt)))

-- the items of an iterator that returns each one beside `()`
pub drains-beside : {S T : Type 0} (steps : S → Option T → S → Type 0) (s : S) (xs : List (T × Unit {0})) → Drains (StepsBeside steps) s xs → Drains steps s (keys_of xs)
drains-beside steps s [] drained = drained
drains-beside steps s (x ∷ xs) (end, (t, (j, step, rest), none)) = let (e, (u, more, last)) = drains-beside steps j xs (end, (t, rest, none)) in (e, (u, (j, step, more), last))

module _ {K V : Type 0} (key : K → K → Type 0) (value : V → V → Type 0) where
  -- tables that are clones slot by slot have lists of pairs that are clones pair by pair
  pub pairs-cloned : (slots copies : List (Option (ℕ × (K × V)))) → AllZip (IsSlotClone (IsPairClone key value)) slots copies → AllZip (IsPairClone key value) (items_in slots) (items_in copies)
  pairs-cloned [] [] all = tt
  pairs-cloned (None ∷ slots) (copy ∷ copies) all = rw all.0 (pairs-cloned slots copies all.1)
  pairs-cloned (Some (h, x) ∷ slots) (copy ∷ copies) all = rw all.0.2 (all.0.1, pairs-cloned slots copies all.1)
  pairs-cloned slots copies all = absurd all

  module _ (eq : K → K → Bool) (laws : IsEquivalence eq) (feeds : K → HashWrites) (alike : (x y : K) → eq x y ≡ true → feeds x ≡ feeds y) (equal : IsEqualClone eq key) where
    abbrev IsOwn : ℕ × K → Type 0
    IsOwn p = p.0 ≡ home_of feeds p.1

    own-cloned : (slots copies : List (Option (ℕ × (K × V)))) → AllZip (IsSlotClone (IsPairClone key value)) slots copies → All IsOwn (keyed (filled slots)) → All IsOwn (keyed (filled copies))
    own-cloned [] [] all own = own
    own-cloned (None ∷ slots) (copy ∷ copies) all own = rw all.0 (own-cloned slots copies all.1 own)
    own-cloned (Some (h, x) ∷ slots) (copy ∷ copies) all own =
        let here = All-head IsOwn (h, x.0) (keyed (filled slots)) own in
        let later = own-cloned slots copies all.1 (All-tail IsOwn (h, x.0) (keyed (filled slots)) own) in
        rw all.0.2 (All-cons IsOwn (h, all.0.0.0) (keyed (filled copies)) (cc (here, alike x.0 all.0.0.0 (equal x.0 all.0.0.0 all.0.1.0))) later)
    own-cloned slots copies all own = absurd all

    pub keyed-cloned : (slots copies : List (Option (ℕ × (K × V)))) → AllZip (IsSlotClone (IsPairClone key value)) slots copies → IsKeyed eq feeds (keyed (filled slots)) → IsKeyed eq feeds (keyed (filled copies))
    keyed-cloned slots copies all keys =
        let counts = λ (k : K). counts-cloned eq laws key value equal k (items_in slots) (items_in copies) (pairs-cloned slots copies all) in
        record { own = own-cloned slots copies all keys.own; distinct = λ k. omega (arith, counts-keyed (eq k) (filled copies), counts k, distinct_pairs eq feeds (filled slots) keys k) }
