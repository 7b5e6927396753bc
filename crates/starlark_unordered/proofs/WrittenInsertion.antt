-- A pair that was inserted, after its value was written.
use Rattle.starlark_hash.proofs.Common.{◌≡◌, ℕ, Bool, cond, List, [], ◌∷◌, map, Some, None, refl, arith, IsPermutation, Result, Ok, Err, IfErr, IfOk, MutBor, OnErr, OnOk, IsEquivalence, length-map, length_permutation, IsPermutation-map, sum_by-IsPermutation, common_steps, count_by, map-append}
use Rattle.starlark_hash.specs.declared.no_room.NoRoom.{NoRoom}
use Rattle.starlark_table.specs.Table.{Table, GrowsAsNeeded, item_in, members, table_len}
use Rattle.starlark_table.proofs.TableLemmas.{grows-alike}
use Rattle.starlark_unordered.specs.Insert.{AddsPair, IsRefusedPair}
use Rattle.starlark_unordered.specs.Pairs.{found, pairs_of, with_value}
use Rattle.starlark_unordered.specs.RawEntry.{IsInPlace}
use Rattle.starlark_unordered.specs.Lend.{IsAdded, PutsPair}
use Rattle.starlark_unordered.proofs.Lists.{none_counted}
use Rattle.starlark_unordered.proofs.RawEntryWrites.{value_in_place}

module _ {K V : Type 0} (t : K → Bool) (w : V) where
  -- the pair, with the new value if its key passes
  abbrev rewritten : K × V → K × V
  rewritten p = cond (t p.0) (p.0, w) p

  -- if no key passes, nothing changes
  unchanged : (ps : List (K × V)) → count_by (λ p. t p.0) ps ≡ 0 → map rewritten ps ≡ ps
  unchanged [] none = refl
  unchanged (p ∷ ps) none = grind (arith, common_steps, unchanged ps)

module _ {K V : Type 0} (eq : K → K → Bool) (laws : IsEquivalence eq) (old : Table (K × V)) (key : K) (value : V) (absent : found (eq key) (pairs_of old) ≡ None) where
  rewritten_pairs : (w : V) (new now : List (K × V)) → IsPermutation ((key, value) ∷ pairs_of old) new → IsInPlace (key, value) (key, w) new now → IsPermutation ((key, w) ∷ pairs_of old) now
  rewritten_pairs w new now moves (before, after, was, is) =
      let none = none_counted (eq key) (pairs_of old) absent in
      let sums = sum_by-IsPermutation (λ (p : K × V). cond (eq key p.0) 1 0) ((key, value) ∷ pairs_of old) new moves in
      let first = unchanged (eq key) w before (grind (arith, common_steps, sums, none, was, laws.refl key)) in
      let last = unchanged (eq key) w after (grind (arith, common_steps, sums, none, was, laws.refl key)) in
      let made = IsPermutation-map (rewritten (eq key) w) ((key, value) ∷ pairs_of old) new moves in
      grind (arith, made, was, is, map-append, laws.refl key, first, last, unchanged (eq key) w (pairs_of old) none)

  -- the map has one pair more whatever value is written in the pair's slot
  added_written : (new : Table (K × V)) (slot : ℕ) (w : V) → item_in new slot ≡ Some (key, value) → IsAdded old key value new → IsAdded old key w (with_value new slot w)
  added_written new slot w there added =
      let now = with_value new slot w in
      let pairs = rewritten_pairs w (pairs_of new) (pairs_of now) added.pairs (rw there at (value_in_place new slot w)) in
      let longer = length_permutation ((key, value) ∷ pairs_of old) (pairs_of new) added.pairs in
      let long : table_len now ≡ table_len new = omega (arith, longer, length_permutation ((key, w) ∷ pairs_of old) (pairs_of now) pairs, length-map (members now) (λ m. m.1), length-map (members new) (λ m. m.1)) in
      record { pairs = pairs; room = grows-alike old new now long refl added.room }

-- the pair that was added is in the slot that the call returned
pub puts_pair : {K V B : Type 0} (eq : K → K → Bool) (laws : IsEquivalence eq) (lent held : MutBor (Table (K × V))) (key : K) (value : V) (back : B) (r : Result ℕ (NoRoom B))
    → found (eq key) (pairs_of lent.now) ≡ None → held.ghost_name ≡ lent.ghost_name → IfOk r (λ slot. item_in held.now slot ≡ Some (key, value)) → OnOk r (AddsPair eq lent.now held.now key value) → OnErr r (IsRefusedPair eq lent.now held.now key)
    → IfErr r (λ refused. refused.0 ≡ back) → GrowsAsNeeded lent.now held.now → PutsPair lent held key value back r
puts_pair {V = V} eq laws lent held key value back (Ok slot) absent same there adds refused handed_back memory =
    let added : IsAdded lent.now key value held.now = record { pairs = adds.pairs; room = memory } in
    assumption (added, λ (w : V). added_written eq laws lent.now key value absent held.now slot w there added)
puts_pair eq laws lent held key value back (Err e) absent same there adds refused handed_back memory = assumption refused
