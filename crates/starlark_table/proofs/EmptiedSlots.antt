-- The loop that empties one slot after another.
use Rattle.starlark_hash.proofs.Common.{◌≡◌, ℕ, ◌+◌, ◌<◌, ◌≤◌, List, length, Option, None, sym, arith, common_steps, set, set-get_or}
use Rattle.starlark_table.specs.Layout.{at}

module _ {T : Type 0} where
  -- emptying an empty slot changes nothing
  pub emptied_again : (cur new : List (Option (ℕ × T))) (i : ℕ) → at cur i ≡ None → new ≡ cur → new ≡ set cur i None
  emptied_again cur new i none is = rw (is, ← none) (sym (set-get_or cur i None))

  -- the first i slots are empty, and the others are as they were
  pub record Emptied (initial cur : List (Option (ℕ × T))) (i : ℕ) : Type 0 where
    pub sized : length cur ≡ length initial
    pub empty : (k : ℕ) → k < i → at cur k ≡ None
    pub untouched : (k : ℕ) → i ≤ k → at cur k ≡ at initial k

  pub emptied-next : (initial cur new : List (Option (ℕ × T))) (i : ℕ) → i < length cur → Emptied initial cur i → new ≡ set cur i None
      → Emptied initial new (i + 1)
  emptied-next initial cur new i below k is = grind (arith, common_steps)
