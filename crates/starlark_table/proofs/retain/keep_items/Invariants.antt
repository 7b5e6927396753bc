use Rattle.starlark_table.proofs.RetainPass.{Walked}
use Rattle.starlark_table.proofs.retain.keep_items.Given as goal

abbrev pub invariant-loop-slot : goal.invariant-loop-slot
invariant-loop-slot g l = Walked g.F.FnMut l.fn.f l.f l.initial.slots l.slots l.tags l.slot l.kept
