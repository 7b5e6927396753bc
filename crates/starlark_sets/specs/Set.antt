-- What a contract sees of a `SmallSet`: the map whose keys are the elements and whose values are all `()`.
use Rattle.std.specs.Prelude.{ℕ, List, Option}
use Rattle.std.specs.Option.{option_map}
use Rattle.starlark_hash.specs.Entries.{Entry, entry_at, entry_key}
use Rattle.starlark_small.specs.Map.{Map}

-- the map to `()`: the elements in order, each under its hash, with the room, the capacity and whether there is a hash index
abbrev pub Set : Type 0 → Type 0
Set T = Map T (Unit {0})

-- the elements of a set, as the entries of the map
abbrev pub Elements : Type 0 → Type 0
Elements T = List (Entry T (Unit {0}))

module _ {T : Type 0} where
  -- the element at the index; none if there is no index
  abbrev pub element_at : Set T → Option ℕ → Option T
  element_at s index = option_map entry_key (entry_at s.entries index)
