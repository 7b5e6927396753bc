-- What a sort and a reversal of entries make of their pairs.
use Rattle.starlark_hash.proofs.Common.{◌≡◌, ◌+◌, ◌<◌, ◌∙◌, [], ◌∷◌, Bool, Err, HashWrites, IsPermutation, IsPermutation-map, IsPermutation-refl, IsSorted, IsTrue, List, Ok, OnErr, OnOk, Ordering, Result, ap, arith, common_steps, get_or-map, is_lt, keys_of, length, length-map, length_permutation, map, refl, subst, sym}
use Rattle.std.specs.HashMap.{IsReordered}
use Rattle.starlark_hash.specs.Entries.{Entry, entry_key, pair_of}
use Rattle.starlark_hash.specs.Hasher.{own_hash}
use Rattle.starlark_hash.specs.Sort.{Ascends, insert_sorted, key_lt, sorted_by}
use Rattle.starlark_hash.specs.Sort as entries
use Rattle.starlark_hash.proofs.SortingLemmas.{IsPermutation-sorted_by}
use Rattle.starlark_small.specs.Lookup.{AreOwn, IsSameAt}
use Rattle.starlark_small.specs.Map.{Map}
use Rattle.starlark_dict.specs.Dict.{dict_of}
use Rattle.starlark_dict.specs.Sort.{sorted_by_key}
use Rattle.starlark_dict.proofs.Inserted.{old-value}
use Rattle.starlark_dict.proofs.OwnPairs.{keys-pairs}

-- a sort of images by a test of the images
module _ {X Y : Type 0} (f : X → Y) (lt : X → X → Bool) (less : Y → Y → Bool) (alike : (x y : X) → less (f x) (f y) ≡ lt x y) where
  map-insert_sorted : (x : X) (xs : List X) → map f (insert_sorted lt x xs) ≡ insert_sorted less (f x) (map f xs)
  map-insert_sorted x [] = refl
  map-insert_sorted x (y ∷ ys) = grind (arith, common_steps, alike y x, map-insert_sorted x ys)

  pub map-sorted_by : (xs : List X) → map f (sorted_by lt xs) ≡ sorted_by less (map f xs)
  map-sorted_by [] = refl
  map-sorted_by (x ∷ xs) = map-insert_sorted x (sorted_by lt xs) ∙ ap (insert_sorted less (f x)) (map-sorted_by xs)

module _ {K V : Type 0} (cmp : K → K → Ordering) where
  pub pairs-sorted : (es : List (Entry K V)) → map pair_of (entries.sorted_by_key cmp es) ≡ sorted_by_key cmp (map pair_of es)
  pairs-sorted es = map-sorted_by pair_of (key_lt cmp) (λ d e. is_lt (cmp d.0 e.0)) (λ x y. refl) es

  -- entries ascend where their keys do
  pub ascends-pairs : (es : List (Entry K V)) → IsSorted cmp (keys_of (map pair_of es)) → Ascends cmp es
  ascends-pairs es up k d low high =
      let sorted = subst (IsSorted cmp) (keys-pairs es) up in
      let within : k + 1 < length es = high in
      sym (λ j. is_lt (cmp (get_or-map entry_key es (k + 1) d (entry_key d) within j) (get_or-map entry_key es k d (entry_key d) (omega (arith, within)) j)))
      ∙ sorted k (entry_key d) low (omega (arith, within, length-map es entry_key))

  -- done or refused, a sort is a permutation
  pub moved-sorted : {A E : Type 0} (old new : List (Entry K V)) (r : Result A E) → OnOk r (new ≡ entries.sorted_by_key cmp old) → OnErr r (new ≡ old) → IsPermutation old new
  moved-sorted old new (Ok x) done kept = subst (IsPermutation old) (sym done) (IsPermutation-sorted_by (key_lt cmp) old)
  moved-sorted old new (Err e) done kept = subst (IsPermutation old) (sym kept) (IsPermutation-refl old)

module _ {K V : Type 0} (eq : K → K → Bool) (feeds : K → HashWrites) (alike : (x y : K) → IsTrue (eq x y) → feeds x ≡ feeds y) (old new : Map K V) where
  -- entries that change places keep what look-ups find
  pub reordered : IsPermutation old.entries new.entries → IsSameAt eq old new → AreOwn feeds old → AreOwn feeds new → IsReordered eq (dict_of old) (dict_of new)
  reordered moves same own_old own_new =
      let pairs = IsPermutation-map pair_of old.entries new.entries moves in
      (pairs, length_permutation (map pair_of old.entries) (map pair_of new.entries) pairs, λ q. sym (old-value eq feeds alike q new own_new) ∙ same (own_hash feeds q) q ∙ old-value eq feeds alike q old own_old)
