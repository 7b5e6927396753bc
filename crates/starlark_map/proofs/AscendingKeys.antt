-- Ascending keys, as a relation between each item of a list and those after it.
use Rattle.starlark_hash.proofs.Common.{◌≡◌, ℕ, zero, suc, Option, Some, None, IfSome, Bor, sym, ◌∙◌, option_map, drop, slice_get, slice_get-map, All-cons, ◌<◌, false, List, [], ◌∷◌, get_or, length, map, arith, IsTotalOrder, Ordering, common_steps, get_or-map, length-map, sorted_far}
use Rattle.std.specs.Prelude.{All}
use Rattle.std.specs.Option.{option_copied}
use Rattle.std.specs.Ordering.{is_gt}
use Rattle.starlark_hash.specs.Entries.{Entry, entry_key}
use Rattle.starlark_hash.specs.Sort.{Ascends, key_lt, sorted_by_key}
use Rattle.starlark_hash.proofs.SortingLemmas.{key_lt-order}
use Rattle.starlark_map.specs.Sorted.{AscendsAlong}
use Rattle.starlark_map.proofs.AscendingLists.{sorted_ascends}

pub Ascends-tail : {K V : Type 0} (cmp : K → K → Ordering) (e : Entry K V) (es : List (Entry K V)) → Ascends cmp (e ∷ es) → Ascends cmp es
Ascends-tail cmp e es up k d low high = grind (arith, up (suc k) d)

module _ {K V : Type 0} {cmp : K → K → Ordering} (total : IsTotalOrder cmp) where
  pub rest-above : (e : Entry K V) (es : List (Entry K V)) → Ascends cmp (e ∷ es) → All (λ w. key_lt cmp w e ≡ false) es
  rest-above e es up k d below = sorted_far (key_lt cmp) (key_lt-order total) (e ∷ es) up 0 (suc k) d (omega arith) (omega (arith, below))

  pub along_from : (es : List (Entry K V)) → Ascends cmp es → AscendsAlong cmp (map entry_key es)
  along_from [] up = tt
  along_from (e ∷ es) up = (
    λ k d inside.
        let within : k < length es = omega (arith, length-map es entry_key, inside) in
        grind (arith, common_steps, get_or-map entry_key es k e d within, rest-above e es up k e within, total.antisymm (entry_key e) (get_or (map entry_key es) k d)),
    along_from es (Ascends-tail cmp e es up),
  )

pub ascends_along : {K V : Type 0} {cmp : K → K → Ordering} → IsTotalOrder cmp → (es : List (Entry K V)) (ks : List K) → ks ≡ map entry_key es → Ascends cmp es → AscendsAlong cmp ks
ascends_along total es ks is up = rw is (along_from total es up)

module _ {K : Type 0} {cmp : K → K → Ordering} (total : IsTotalOrder cmp) where
  -- an item is not greater than any from there on
  pub least_from : (ks : List K) (index : ℕ) (k : K) → AscendsAlong cmp ks → slice_get ks index ≡ Some k → All (λ y. is_gt (cmp k y) ≡ false) (drop index ks)
  least_from [] index k up at = cc
  least_from (x ∷ xs) zero k up at = All-cons (λ y. is_gt (cmp k y) ≡ false) x xs (grind (arith, common_steps, total.antisymm x x)) (grind (arith, common_steps, up.0))
  least_from (x ∷ xs) (suc i) k up at = least_from xs i k up.1 at

  module _ {V : Type 0} where
    -- the key at an index is not greater than any from there on
    pub least_at : (es : List (Entry K V)) (index : ℕ) (r : Option (Bor K)) → Ascends cmp es → option_copied r ≡ option_map entry_key (slice_get es index)
        → IfSome r (λ key. All (λ y. is_gt (cmp key.now y) ≡ false) (drop index (map entry_key es)))
    least_at es index None up at = tt
    least_at es index (Some key) up at = least_from (map entry_key es) index key.now (along_from total es up) (slice_get-map entry_key es index ∙ sym at)

    -- the keys of a sorted list ascend
    pub sorted_along : (es fs : List (Entry K V)) → fs ≡ sorted_by_key cmp es → AscendsAlong cmp (map entry_key fs)
    sorted_along es fs same = along_from total fs (sorted_ascends cmp total es fs same)

pub ruleset along = (ascends_along)

pub ruleset sorts = (sorted_ascends, sorted_along)
