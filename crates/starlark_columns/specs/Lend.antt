-- The value of a `Row`, a `Column`, a `Bytes` and a `Perhaps` once a `&mut` into it has ended.
use Rattle.std.specs.Prelude.{ℕ, List, slice_set, Option, Some, length}
use Rattle.std.specs.Borrow.{Fml, RattleType, MutBor, Array, Lends, u8, LendsIf}
use Rattle.starlark_columns.specs.Front.{with_items}
use Rattle.starlark_columns.specs.declared.row.Row.{Row}
use Rattle.starlark_columns.specs.contracts.row.Row.{the_row as row_type}
use Rattle.starlark_columns.specs.contracts.column.Column.{the_row as column_type}
use Rattle.std.specs.List.{refill}
use Rattle.starlark_columns.specs.contracts.bytes.Bytes.{the_row as bytes_type}
use Rattle.starlark_columns.specs.contracts.perhaps.Perhaps.{the_row as perhaps_type}

module _ {X : Type 0} where
  -- the row with these cells
  abbrev pub with_cells : Row X → List (Option X) → Row X
  with_cells r cs = record { mark = r.mark; at = r.at; cells = cs }

-- once the `&mut` has ended, the row has in this cell the item that was written through it
abbrev pub lends_item : (R : RattleType) → MutBor (Row R.Denot) → ℕ → MutBor R.Denot → Fml
lends_item R s i r = Lends (row_type R) R s r (λ w. with_cells s.now (slice_set s.now.cells i (Some w)))

-- once the `&mut` has ended, the row has at its front the items that were written through it
abbrev pub lends_front : (R : RattleType) → MutBor (Row R.Denot) → MutBor (List R.Denot) → Fml
lends_front R s r = Lends (row_type R) (Array R 0) s r (λ ws. with_cells s.now (with_items s.now.cells ws))

-- once the `&mut` has ended, the column has in this cell the item that was written through it
abbrev pub lends_column_item : (R : RattleType) → MutBor (List (Option R.Denot)) → ℕ → MutBor R.Denot → Fml
lends_column_item R c i r = Lends (column_type R) R c r (λ w. slice_set c.now i (Some w))

-- once the `&mut` has ended, the bytes are those that were written through it, of which as many count as there were
abbrev pub lends_bytes : MutBor (List ℕ) → MutBor (List ℕ) → Fml
lends_bytes b r = Lends bytes_type (Array u8 0) b r (refill (length b.now) b.now)

-- once the `&mut` has ended, the item is the one that was written through it
abbrev pub lends_there : (R : RattleType) → MutBor (Option R.Denot) → MutBor R.Denot → Fml
lends_there R p r = Lends (perhaps_type R) R p r Some

-- once the `&mut` has ended, if there is one, the item is the one that was written through it; without one there is
-- still none
abbrev pub lends_some : (R : RattleType) → MutBor (Option R.Denot) → Option (MutBor R.Denot) → Fml
lends_some R p r = LendsIf (perhaps_type R) R p r Some p.now
