-- How the kit's `Slots` are read as cells: from a list of items and a list of flags that say which of them are there.
-- No public clause cites this module.
use Rattle.std.specs.Prelude.{ℕ, zero, suc, Bool, true, false, List, [], ◌∷◌, Option, Some, None}

module _ {X : Type 0} where
  -- a cell with the item if the flag is set, else an empty cell
  abbrev pub cell_of : X → Bool → Option X
  cell_of x true = Some x
  cell_of x false = None

  -- a cell for each item, full if its flag is set
  abbrev pub cells_of : List X → List Bool → List (Option X)
  cells_of [] fs = []
  cells_of (x ∷ xs) [] = []
  cells_of (x ∷ xs) (f ∷ fs) = cell_of x f ∷ cells_of xs fs

  -- the row with the cells from `from` up to `to` emptied
  abbrev pub emptied : ℕ → ℕ → List (Option X) → List (Option X)
  emptied from to [] = []
  emptied from zero (c ∷ cs) = c ∷ cs
  emptied zero (suc to) (c ∷ cs) = None ∷ emptied zero to cs
  emptied (suc from) (suc to) (c ∷ cs) = c ∷ emptied from to cs
