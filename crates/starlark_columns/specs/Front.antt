-- Rows whose items are in the first cells.
use Rattle.std.specs.Prelude.{◌≡◌, ℕ, ◌-◌, ◌≤◌, true, false, List, ◌++◌, map, length, replicate, Option, Some, is_some}
use Rattle.std.specs.List.{refill}
use Rattle.starlark_columns.specs.Cells.{empties, items_of}

module _ {X : Type 0} where
  -- a row of n cells, of which the first hold xs and the others are empty
  abbrev pub fronted : List X → ℕ → List (Option X)
  fronted xs n = map Some xs ++ empties (n - length xs)

  -- the first n cells hold items, and the others are empty
  pub record IsFront (cs : List (Option X)) (n : ℕ) : Type 0 where
    pub count : length (items_of cs) ≡ n
    -- says which cells are full, so that it also holds after a map of the items
    pub form : map is_some cs ≡ replicate n true ++ replicate (length cs - n) false
    pub within : n ≤ length cs

  -- the row with the items ws in place of its own, of which as many count as there were
  abbrev pub with_items : List (Option X) → List X → List (Option X)
  with_items cs ws = fronted (refill (length (items_of cs)) (items_of cs) ws) (length cs)
