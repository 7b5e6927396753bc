-- Rows of cells, each of which is empty or holds an item.
use Rattle.std.specs.Prelude.{◌≡◌, ℕ, ◌-◌, ◌≤◌, List, [], ◌∷◌, ◌++◌, map, length, take, drop, replicate, get_or, slice_range, Option, Some, None}

module _ {X : Type 0} where
  -- a row of n empty cells
  abbrev pub empties : ℕ → List (Option X)
  empties n = replicate n None

  -- the cell holds an item
  abbrev pub IsFilled : List (Option X) → ℕ → Type 0
  IsFilled cs i = (x : X) × (get_or cs i None ≡ Some x)

  -- each cell from `from` up to `to` holds an item
  abbrev pub AreFilled : List (Option X) → ℕ → ℕ → Type 0
  AreFilled cs from to = (from ≤ to) × (to ≤ length cs) × ((xs : List X) × (slice_range cs from to ≡ map Some xs))

  -- each cell from `from` up to `to` is empty
  abbrev pub AreEmpty : List (Option X) → ℕ → ℕ → Type 0
  AreEmpty cs from to = (from ≤ to) × (to ≤ length cs) × (slice_range cs from to ≡ empties (to - from))

  -- the items of the full cells, in their order
  abbrev pub items_of : List (Option X) → List X
  items_of [] = []
  items_of (None ∷ cs) = items_of cs
  items_of (Some x ∷ cs) = x ∷ items_of cs

  -- the row with the cells ds in place of those from `from` up to `to`
  abbrev pub with_range : List (Option X) → ℕ → ℕ → List (Option X) → List (Option X)
  with_range cs from to ds = take from cs ++ (ds ++ drop to cs)

  -- the row with the cells from `from` up to `end` moved down by `from - to`, to the cells from `to` on; the cells that
  -- they leave are empty
  abbrev pub moved_down : List (Option X) → ℕ → ℕ → ℕ → List (Option X)
  moved_down cs from end to = with_range cs to end (slice_range cs from end ++ empties (from - to))
