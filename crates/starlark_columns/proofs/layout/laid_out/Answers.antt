use denote.Memory.{lone}
use Rattle.starlark_columns.proofs.Layouts.{layout_is}
use Rattle.starlark_columns.proofs.layout.laid_out.Goals as goal

pub returns : goal.returns
returns g c =
    layout_is (lone g.row.T.mir) (lone g.row.U.mir) c.args.count _ _ _ _ _ _ _ _ c.item_align-first.ensures c.item_align-second.ensures c.max-align.ensures (rw c.item_size.ensures at c.saturating_mul-firsts.ensures)
    (rw c.item_size-2.ensures at c.saturating_mul-seconds.ensures) c.rounded_up-offset.ensures c.saturating_add-end.ensures c.rounded_up-size.ensures
