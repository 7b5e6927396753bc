-- The definitions by which contracts describe an `UnorderedSet`, which is a map to `()`.
use Rattle.std.specs.Prelude.{List}
use Rattle.std.specs.Map.{keys_of}
use Rattle.starlark_table.specs.Table.{Table}
use Rattle.starlark_unordered.specs.Pairs.{pairs_of}

-- the view of a set: the table of a map to `()`
abbrev pub Set : Type 0 → Type 0
Set T = Table (T × Unit {0})

module _ {T : Type 0} where
  -- the elements in the order of iteration, which no clause promises
  abbrev pub elements_of : Set T → List T
  elements_of s = keys_of (pairs_of s)
