use Rattle.starlark_table.proofs.SearchState.{Looking, left_to_look}
use Rattle.starlark_table.proofs.probe.find_slot.Given as goal

abbrev pub invariant-windows : goal.invariant-windows
invariant-windows g l = Looking g.F.FnMut l.hash l.tags l.slots l.fn.eq l.start l.slot l.same l.eq

abbrev pub decreases-windows : goal.decreases-windows
decreases-windows g l = left_to_look l.hash l.slots l.start l.slot
