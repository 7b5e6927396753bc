-- The memory of a map that is collected from a list's entries, with initial room for at most as many.
use Rattle.starlark_hash.proofs.Common.{◌≡◌, ℕ, ◌*◌, ◌≤◌, max, ◌||◌, List, [], length, ap, arith, nat_lt, nat_tests}
use Rattle.starlark_hash.specs.Entries.{Entry}
use Rattle.starlark_small.specs.Memory.{stepped_capacity}
use Rattle.starlark_small.specs.Index.{unindexed}
use Rattle.starlark_small.specs.Map.{Map}
use Rattle.starlark_small.proofs.Growing.{stepped_bounds}

module _ {K V : Type 0} where
  -- a map without entries, with room for n
  abbrev pub emptied : Map K V → ℕ → Map K V
  emptied m first = record m { entries = []; capacity = first }

  module _ (m : Map K V) (es : List (Entry K V)) (first : ℕ) (same : m.entries ≡ es) (below : first ≤ length es) where
    pub capacity_anew : m.capacity ≡ stepped_capacity (emptied m first) m → m.capacity ≤ max 4 (2 * length es)
    capacity_anew is = omega (arith, below, ap length same, is, (stepped_bounds (emptied m first) m (omega arith)).1)

    pub indexed_anew : m.indexed ≡ (nat_lt unindexed first || nat_lt unindexed (length m.entries)) → m.indexed ≡ nat_lt unindexed (length es)
    indexed_anew is = grind (arith, nat_tests, below, ap length same)
