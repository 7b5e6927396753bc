use Rattle.starlark_hash.proofs.Common.{◌-◌, length}
use Rattle.starlark_table.specs.Layout.{distance}
use Rattle.starlark_table.proofs.BackwardShift.{Passed}
use Rattle.starlark_table.proofs.remove.next_across.Given as goal

abbrev pub invariant-loop-next : goal.invariant-loop-next
invariant-loop-next g l = Passed (length l.slots) l.slots l.hole l.next

abbrev pub decreases-loop-next : goal.decreases-loop-next
decreases-loop-next g l = length l.slots - distance (length l.slots) l.hole l.next
