use Rattle.starlark_columns.proofs.ItemsAtFront.{front_empties}
use Rattle.starlark_columns.proofs.bytes.Bytes.filled.Goals as goal

pub loop-made-init : goal.loop-made-init
loop-made-init c =
    let none = front_empties c.in_ok-address.row.cells c.args.count c.in_ok-address.ensures.1 in (none.0, none.1, none.2, c.in_ok-address.ensures.0)
