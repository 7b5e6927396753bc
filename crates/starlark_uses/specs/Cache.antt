-- What a contract sees of a `Cache`.
use Rattle.std.specs.Ordering.{on}
use Rattle.std.specs.Prelude.{◌≡◌, ℕ, Bool, Option, Some, nat_eq, if◌then◌else◌}
use Rattle.starlark_sets.specs.Set.{Set}
use Rattle.starlark_hash.specs.Unit.{same_unit}
use Rattle.starlark_table.specs.Table.{Table}
use Rattle.starlark_unordered.specs.Lookup.{get}
use Rattle.starlark_hash.specs.Compare.{same_ordered}

-- the table of a cache: sets, each with its answer
abbrev pub Answers : Type 0 → Type 0
Answers V = Table (Set ℕ × V)

-- whether two sets have the same elements, under the same hashes, in the same order
abbrev pub set_eq : Set ℕ → Set ℕ → Bool
set_eq = on (λ s. s.entries) (same_ordered nat_eq same_unit)

module _ {V : Type 0} where
  -- the answer that the cache has for an equal set, if any
  abbrev pub cached : Answers V → Set ℕ → Option V
  cached c set = get set_eq c set

  -- every equal set has this answer now, and every other set what it had
  unfoldable pub Caches : Answers V → Answers V → Set ℕ → V → Type 0
  Caches old new set answer = (other : Set ℕ) → cached new other ≡ (if set_eq set other then Some answer else cached old other)
