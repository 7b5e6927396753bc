-- Lists that ascend: sorted lists, changes that keep the order, and when the order is strict.
use Rattle.starlark_hash.proofs.Common.{◌≡◌, ℕ, zero, suc, ◌+◌, ◌<◌, Bool, true, false, List, [], ◌∷◌, length, get_or, Option, Some, None, refl, sym, ap, subst, ◌∙◌, arith, IsTotalOrder, HashWrites, AllZip, eq_by_cmp, is_lt, ordering_reverse, Ordering, Less, Equal, common_steps, AllZip-get_or, length_all_zip, sorted_far}
use Rattle.std.specs.Cmp.{Equal-is, alike_right}
use Rattle.std.specs.List.Sorted.{IsSortedByKey}
use Rattle.starlark_hash.specs.Entries.{Entry, IsSingle, entry_key, with_value}
use Rattle.starlark_hash.specs.Hasher.{own_hash}
use Rattle.starlark_hash.specs.HashValue.{hash_number}
use Rattle.starlark_hash.specs.Sort.{Ascends, key_lt, sorted_by_key}
use Rattle.starlark_hash.proofs.EntryLemmas.{length-set_value_at, set_value_at-key}
use Rattle.starlark_hash.proofs.SortingLemmas.{key_lt-order, sorted_by-sorted}
use Rattle.starlark_hash.specs.Clone.{IsEqualClone, IsEntryClone}
use Rattle.starlark_vecmap.specs.EntryList.{with_values}
use Rattle.starlark_vecmap.proofs.WrittenValues.{length-with_values}
use Rattle.starlark_small.specs.Lookup.{AreOwnEntries}
use Rattle.starlark_map.specs.Sorted.{AscendsStrictly}

-- an item that is neither greater nor equal is less
pub less : (r s : Ordering) → r ≡ ordering_reverse s → is_lt s ≡ false → (r ≡ Equal → ⊥) → r ≡ Less
less r s turned low apart = grind (arith, common_steps)

module _ {X K : Type 0} (f : X → K) {cmp : K → K → Ordering} (total : IsTotalOrder cmp) (R : X → X → Type 0) (alike : (x y : X) → R x y → cmp (f x) (f y) ≡ Equal) where
  -- if a list ascends, so does a list whose items tie one by one with those of the first
  pub IsSortedByKey-zip : (xs ys : List X) → AllZip R xs ys → IsSortedByKey f cmp xs → IsSortedByKey f cmp ys
  IsSortedByKey-zip xs ys zip up k d low high =
      let long = length_all_zip R xs ys zip in
      let inside : k + 1 < length xs = omega (arith, long, high) in
      let here = alike (get_or xs k d) (get_or ys k d) (AllZip-get_or R xs ys k d d zip (omega (arith, inside))) in
      let next = alike (get_or xs (k + 1) d) (get_or ys (k + 1) d) (AllZip-get_or R xs ys (k + 1) d d zip inside) in
      cc (total.congr (f (get_or xs (k + 1) d)) (f (get_or ys (k + 1) d)) (f (get_or ys k d)) next, alike_right total (f (get_or xs k d)) (f (get_or ys k d)) (f (get_or xs (k + 1) d)) here, up k d low inside)

module _ {K : Type 0} {cmp : K → K → Ordering} {eq : K → K → Bool} (total : IsTotalOrder cmp) (ties : (x y : K) → eq x y ≡ eq_by_cmp cmp x y) where
  clone_ties : {is_clone : K → K → Type 0} → IsEqualClone eq is_clone → (x y : K) → is_clone x y → cmp x y ≡ Equal
  clone_ties equal x y cloned = (Equal-is (cmp x y)).0 (sym (ties x y) ∙ equal x y cloned)

  -- clones of ascending items ascend
  pub IsSorted-clones : (is_clone : K → K → Type 0) → IsEqualClone eq is_clone → (xs ys : List K) → AllZip is_clone xs ys → IsSortedByKey (λ x. x) cmp xs → IsSortedByKey (λ x. x) cmp ys
  IsSorted-clones is_clone equal xs ys = IsSortedByKey-zip (λ x. x) total is_clone (clone_ties equal) xs ys

  -- clones of entries with ascending keys have ascending keys
  pub Ascends-clones : {V : Type 0} (key : K → K → Type 0) (value : V → V → Type 0) → IsEqualClone eq key → (es fs : List (Entry K V)) → AllZip (IsEntryClone key value) es fs → Ascends cmp es → Ascends cmp fs
  Ascends-clones key value equal es fs = IsSortedByKey-zip entry_key total (IsEntryClone key value) (λ d e cloned. clone_ties equal (entry_key d) (entry_key e) cloned.1) es fs

  module _ {V : Type 0} {feeds : K → HashWrites} (respects : (x y : K) → eq x y ≡ true → feeds x ≡ feeds y) where
    -- if no two entries have one hash and equal keys, and each hash is the key's own, keys that ascend do so strictly
    pub Ascends-strictly : (es : List (Entry K V)) → IsSingle eq es → Ascends cmp es → AreOwnEntries feeds es → AscendsStrictly cmp es
    unfolding AreOwnEntries
    Ascends-strictly es single up own i j d below inside =
        let e = get_or es i d in let f = get_or es j d in
        let x = entry_key e in let y = entry_key f in
        less (cmp x y) (cmp y x) (total.antisymm x y) (sorted_far (key_lt cmp) (key_lt-order total) es up i j d (omega (arith, below)) inside)
        (λ level.
        let same : eq x y ≡ true = ties x y ∙ (Equal-is (cmp x y)).1 level in
        let hashes = own j d inside ∙ ap (own_hash (λ (writes : HashWrites). writes)) (sym (respects x y same)) ∙ sym (own i d (omega (arith, below, inside))) in
        grind (arith, common_steps, single i j d, ap hash_number hashes))

module _ {K V : Type 0} where
  -- writing values keeps each key under its hash
  with_values-key : (es ws : List (Entry K V)) (k : ℕ) (d : Entry K V) → (get_or (with_values es ws) k d).0 ≡ (get_or es k d).0
  with_values-key [] ws k d = refl
  with_values-key (e ∷ es) ws zero d = grind arith
  with_values-key (e ∷ es) [] (suc k) d = with_values-key es [] k d
  with_values-key (e ∷ es) (w ∷ ws) (suc k) d = with_values-key es ws k d

module _ {K V : Type 0} (cmp : K → K → Ordering) where
  -- a sorted list ascends
  pub sorted_ascends : IsTotalOrder cmp → (es fs : List (Entry K V)) → fs ≡ sorted_by_key cmp es → Ascends cmp fs
  sorted_ascends total es fs same = subst (Ascends cmp) (sym same) (sorted_by-sorted (key_lt cmp) (key_lt-order total) es)

  -- a list without entries ascends
  pub Ascends-empty : (es : List (Entry K V)) → es ≡ [] → Ascends cmp es
  Ascends-empty es none = grind arith

  -- writing a value keeps the keys ascending
  pub Ascends-with_value : (es : List (Entry K V)) (index : Option ℕ) (value : V) → Ascends cmp es → Ascends cmp (with_value es index value)
  Ascends-with_value es None value up = up
  Ascends-with_value es (Some i) value up = λ k d low high. grind (arith, length-set_value_at es i value, set_value_at-key es i value (k + 1) d, set_value_at-key es i value k d, up k d)

  -- writing all values keeps the keys ascending
  pub Ascends-with_values : (es ws : List (Entry K V)) → Ascends cmp es → Ascends cmp (with_values es ws)
  Ascends-with_values es ws up k d low high = grind (arith, length-with_values es ws, with_values-key es ws (k + 1) d, with_values-key es ws k d, up k d)

  -- a list that ascends strictly ascends
  pub Ascends-from_strictly : IsTotalOrder cmp → (es : List (Entry K V)) → AscendsStrictly cmp es → Ascends cmp es
  Ascends-from_strictly total es strict k d low high = cc (total.antisymm (entry_key (get_or es (k + 1) d)) (entry_key (get_or es k d)), strict k (k + 1) d (omega arith) high)
