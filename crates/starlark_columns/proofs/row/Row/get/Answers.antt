use Rattle.starlark_columns.proofs.CellsOfSlots.{one_filled}
use Rattle.starlark_columns.proofs.row.Row.get.Goals as goal

pub slice-requires-clause-filled : goal.slice-requires-clause-filled
slice-requires-clause-filled g c = one_filled c.args.self.now.cells c.args.index c.requires.filled
