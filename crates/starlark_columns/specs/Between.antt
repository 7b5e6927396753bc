-- Rows whose items are in a range of cells.
use Rattle.std.specs.Prelude.{◌≡◌, ℕ, ◌-◌, ◌≤◌, true, false, List, ◌++◌, map, length, replicate, Option, is_some}
use Rattle.starlark_columns.specs.Cells.{items_of}

module _ {X : Type 0} where
  -- each cell from `from` up to `to` holds an item, and all others are empty
  pub record IsBetween (cs : List (Option X)) (from to : ℕ) : Type 0 where
    pub count : length (items_of cs) ≡ to - from
    pub form : map is_some cs ≡ replicate from false ++ (replicate (to - from) true ++ replicate (length cs - to) false)
    pub order : from ≤ to
    pub within : to ≤ length cs
