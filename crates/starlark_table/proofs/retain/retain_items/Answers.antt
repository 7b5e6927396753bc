use Rattle.starlark_hash.proofs.Common.{arith}
use Rattle.starlark_table.proofs.Load.{empty_slot}
use Rattle.starlark_table.proofs.retain.retain_items.Goals as goal

pub free_slot-start-requires-clause-free : goal.free_slot-start-requires-clause-free
free_slot-start-requires-clause-free g c =
    empty_slot c.args.slots.now (omega (arith, c.requires.load, c.cells.ensures.cells, c.if-cells-eq0.false))
