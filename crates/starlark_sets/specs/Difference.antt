-- The difference of two sets, and its iterator.
use Rattle.std.specs.Prelude.{◌≡◌, Bool, not, List, [], ◌∷◌, Option, if◌then◌else◌, filter, is_some, map}
use Rattle.std.specs.Borrow.{Bor}
use Rattle.std.specs.Iterator.{YieldsFirstRef}
use Rattle.std.specs.Iterator.Runs.{EveryRun, ItemsMapTo}
use Rattle.std.specs.Map.Iter.{deref}
use Rattle.starlark_hash.specs.Entries.{Entry, entry_key, match_of}
use Rattle.starlark_sets.specs.Set.{Elements}

-- the elements that a difference has left to look at, and the list in which each is looked up
pub record Difference (T : Type 0) : Type 0 where
  pub left : Elements T
  pub other : Elements T

-- the items behind the first one that passes
abbrev pub past : {X : Type 0} → (X → Bool) → List X → List X
past p [] = []
past p (x ∷ xs) = if p x then xs else past p xs

module _ {T : Type 0} (eq : T → T → Bool) where
  -- whether no element of the list has this one's hash and is equal to it
  abbrev pub lacks : Elements T → Entry T (Unit {0}) → Bool
  lacks fs e = not (is_some (match_of eq fs e.0))

  -- the elements of the first list that the second one lacks
  abbrev pub difference : Elements T → Elements T → Elements T
  difference es fs = filter (lacks fs) es

  -- the elements that are still to come
  abbrev pub difference_rest : Difference T → List T
  difference_rest d = map entry_key (difference d.left d.other)

  -- a step yields the first element to come, and passes over those before it
  abbrev pub DifferenceSteps : Difference T → Option (Bor T) → Difference T → Type 0
  DifferenceSteps s r t = YieldsFirstRef difference_rest s r t × (t ≡ record s { left = past (lacks s.other) s.left })

  -- each run of `next` yields the elements that were still to come, in order
  abbrev pub ShowsDifference : Type 0
  ShowsDifference = EveryRun DifferenceSteps (λ p. ItemsMapTo p deref (difference_rest p.from))
