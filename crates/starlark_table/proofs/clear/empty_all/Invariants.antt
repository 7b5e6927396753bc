use Rattle.starlark_table.proofs.EmptiedSlots.{Emptied}
use Rattle.starlark_table.proofs.clear.empty_all.Given as goal

abbrev pub invariant-loop-slot : goal.invariant-loop-slot
invariant-loop-slot g l = Emptied l.initial.slots l.slots l.slot
