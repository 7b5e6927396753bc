-- What an iterator over a list yields: each run of `next` and of `next_back`, by std's definitions, from the state
-- `walk`.
use Rattle.std.specs.Prelude.{List}
use Rattle.std.specs.Iterator.Runs.{EachRunFrom, ItemsMapTo, ItemsMapToReversed}
use Rattle.std.specs.Map.Iter.{TakesFirst, TakesLast}

module _ {A X : Type 0} (shows : A → X) (walk list : List X) where
  -- each run of `next` yields the list, in order
  abbrev pub WalkShows : Type 0
  WalkShows = EachRunFrom (TakesFirst shows) walk (λ p. ItemsMapTo p shows list)

  -- each run of `next_back` yields the list, in reverse
  abbrev pub WalkShowsBack : Type 0
  WalkShowsBack = EachRunFrom (TakesLast shows) walk (λ p. ItemsMapToReversed p shows list)
