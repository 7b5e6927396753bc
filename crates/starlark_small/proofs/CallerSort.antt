-- Look-ups after the entries were permuted.
use Rattle.starlark_hash.proofs.Common.{◌≡◌, ◌+◌, ◌<◌, false, List, length, map, Option, Some, None, IsPermutation, Bool, refl, sym, ◌∙◌, arith, IsEquivalence, IsTotalOrder, IsSorted, is_lt, Ordering, get_or-map, keys_of, lookup, length-map, Contains, All-permutation, Contains-permutation, place_from_lookup, slice_get_within, get_or_from_slice_get}
use Rattle.std.specs.List.{IsDistinct}
use Rattle.std.proofs.lemmas.List.Elements.{All-from_recursion, recursion_from_All}
use Rattle.std.proofs.lemmas.Map.{none_passes_from_lookup}
use Rattle.std.proofs.lemmas.Map.Views.{lookup-from_Contains}
use Rattle.std_collections.proofs.Entries.{lookup-none, lookup_class}
use Rattle.starlark_hash.specs.declared.hash_value.StarlarkHashValue.{StarlarkHashValue}
use Rattle.starlark_hash.specs.HashValue.{hashed}
use Rattle.starlark_hash.specs.Entries.{Entry, IsSingle, entry_key}
use Rattle.starlark_hash.specs.Lookup.{found}
use Rattle.starlark_hash.specs.Sort.{key_lt, sorted_by_key}
use Rattle.starlark_hash.proofs.SortingLemmas.{sorted_by-sorted, key_lt-order}
use Rattle.starlark_hash.proofs.EntryLemmas.{IsSingle-permutation}
use Rattle.starlark_small.specs.Along.{an-item}
use Rattle.starlark_small.specs.CompareLaws.{alike-laws, value_at-lookup}
use Rattle.starlark_small.proofs.SameEntries.{distinct}

module _ {K X : Type 0} {R : K → K → Bool} (o : IsEquivalence R) (es fs : List (K × X)) (moves : IsPermutation es fs) (apart : IsDistinct R (keys_of fs)) (q : K) where
  found_then : (r : Option X) → lookup (R q) es ≡ r → lookup (R q) fs ≡ r
  found_then None e = lookup-none (R q) fs (recursion_from_All (λ p. R q p.0 ≡ false) fs (All-permutation (λ p. R q p.0 ≡ false) es fs moves (All-from_recursion (λ p. R q p.0 ≡ false) es (none_passes_from_lookup (R q) es e))))
  found_then (Some v) e =
      let p = place_from_lookup (R q) es v e in
      let here : Contains es (p.1, v) = (p.0, slice_get_within es p.0 (p.1, v) p.2, get_or_from_slice_get es p.0 (p.1, v) (p.1, v) p.2) in
      sym (lookup_class o (R q) (o.congr q) p.1 p.3 fs) ∙ lookup-from_Contains o p.1 v fs apart (Contains-permutation es fs (p.1, v) moves here)

-- each key has what it had
pub same-permuted : {K V : Type 0} (eq : K → K → Bool) → IsEquivalence eq → (old new : List (Entry K V)) → IsSingle eq old → IsPermutation old new
    → (under : StarlarkHashValue) (key : K) → found (eq key) under new ≡ found (eq key) under old
unfolding found
same-permuted eq laws old new single moves under key =
    value_at-lookup eq new (hashed under key)
    ∙ found_then (alike-laws eq laws) old new moves (distinct eq new (IsSingle-permutation eq laws old new single moves)) (hashed under key) _ refl
    ∙ sym (value_at-lookup eq old (hashed under key))

-- the keys of sorted entries ascend
pub keys-sorted : {K V : Type 0} {cmp : K → K → Ordering} → IsTotalOrder cmp → (es : List (Entry K V)) → IsSorted cmp (map entry_key (sorted_by_key cmp es))
keys-sorted {K} {V} {cmp} total es k d low high =
    let l = sorted_by_key cmp es in
    let within : k + 1 < length l = omega (arith, high, length-map l entry_key) in
    let e = an-item l (k + 1) within in
    (λ j. is_lt (cmp (get_or-map entry_key l (k + 1) e d within j) (get_or-map entry_key l k e d (omega (arith, within)) j))) ∙ sorted_by-sorted (key_lt cmp) (key_lt-order total) es k e low within
