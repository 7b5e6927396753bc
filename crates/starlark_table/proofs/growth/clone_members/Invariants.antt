use Rattle.starlark_table.proofs.ClonedSlots.{Cloned}
use Rattle.starlark_table.proofs.growth.clone_members.Given as goal

abbrev pub invariant-loop-slot : goal.invariant-loop-slot
invariant-loop-slot g l = Cloned g.T.Clone.is_clone l.slots l.copy l.copy_tags l.slot
