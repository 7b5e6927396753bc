-- The two columns of a list of pairs, and their values once a reference into them has ended. No public clause cites
-- this module.
use Rattle.std.specs.Prelude.{◌≡◌, ℕ, List, Option, length, Some, slice_set}
use Rattle.starlark_columns.specs.Front.{IsFront}
use Rattle.std.specs.Borrow.{Fml, RattleType, MutBor, LendsIf, fsep}
use Rattle.starlark_columns.specs.declared.row.Row.{Row}
use Rattle.starlark_columns.specs.Lend.{with_cells, lends_item}
use Rattle.starlark_columns.specs.contracts.row.Row.{the_row}

-- the first n cells of each column are filled and the others empty, and both have the same number of cells
pub record AreColumns {A B : Type 0} (firsts : List (Option A)) (seconds : List (Option B)) (n : ℕ) : Type 0 where
  pub firsts_front : IsFront firsts n
  pub seconds_front : IsFront seconds n
  pub even : length seconds ≡ length firsts

module _ (A : RattleType) where
  -- the type `Row<A>`
  abbrev pub column : RattleType
  column = the_row A

  -- once the `&mut` has ended, if there is one, the column has at the index the item that was written through it;
  -- without one it stays
  abbrev pub lends_cell_if : MutBor (Row A.Denot) → ℕ → Option (MutBor A.Denot) → Fml
  lends_cell_if s i r = LendsIf column A s r (λ w. with_cells s.now (slice_set s.now.cells i (Some w))) s.now

module _ (A B : RattleType) (s : MutBor (Row A.Denot)) (t : MutBor (Row B.Denot)) where
  -- once both `&mut`s have ended, both columns have at the index the items that were written through them
  abbrev pub lends_cells : ℕ → MutBor A.Denot × MutBor B.Denot → Fml
  lends_cells i r = fsep (lends_item A s i r.0) (lends_item B t i r.1)
