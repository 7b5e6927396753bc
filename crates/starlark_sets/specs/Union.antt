-- The union of two sets, and its iterator.
use Rattle.std.specs.Prelude.{◌≡◌, ℕ, ◌+◌, ◌≤◌, List, [], ◌∷◌, ◌++◌, Option, Some, None, Bool, nat_lt, ◌^◌, if◌then◌else◌, map}
use Rattle.std.specs.Borrow.{Bor}
use Rattle.std.specs.Iterator.{YieldsFirstRef}
use Rattle.std.specs.Iterator.Runs.{EveryRun, ItemsMapTo}
use Rattle.std.specs.Map.Iter.{deref}
use Rattle.starlark_hash.specs.Entries.{entry_key}
use Rattle.starlark_sets.specs.Difference.{Difference, DifferenceSteps, difference}
use Rattle.starlark_sets.specs.Set.{Elements}

-- the elements that a union has left of the first list, and the difference that follows
pub record Union (T : Type 0) : Type 0 where
  pub first : Elements T
  pub second : Difference T

module _ {T : Type 0} (eq : T → T → Bool) where
  -- the elements of one list, and then those of the other that the first lacks
  abbrev pub union : Elements T → Elements T → Elements T
  union es fs = es ++ difference eq fs es

  -- the elements that are still to come
  abbrev pub union_rest : Union T → List T
  union_rest u = map entry_key (u.first ++ difference eq u.second.left u.second.other)

  -- a step takes from the first list while it has any, and then from the difference
  abbrev pub StepsThere : Elements T → Union T → Option (Bor T) → Union T → Type 0
  StepsThere [] s r t = (t.first ≡ []) × DifferenceSteps eq s.second r t.second
  StepsThere (e ∷ es) s r t = t ≡ record s { first = es }

  -- a step yields the first element to come
  abbrev pub UnionSteps : Union T → Option (Bor T) → Union T → Type 0
  UnionSteps s r t = YieldsFirstRef union_rest s r t × StepsThere s.first s r t

  -- each run of `next` yields the elements that were still to come, in order
  abbrev pub ShowsUnion : Type 0
  ShowsUnion = EveryRun UnionSteps (λ p. ItemsMapTo p deref (union_rest p.from))

-- n is a possible number of elements of a union of sets with these lengths: at most their sum, and at least each of them
pub record CountsEither (first second n : ℕ) : Type 0 where
  pub most : n ≤ first + second
  pub all_of_first : first ≤ n
  pub all_of_second : second ≤ n

-- a number of items, if a `usize` holds it
abbrev pub fits_in : ℕ → Option ℕ
fits_in n = if nat_lt n (2 ^ 64) then Some n else None
