use Rattle.starlark_hash.proofs.Common.{◌-◌, length}
use Rattle.starlark_table.proofs.LentSlots.{PassedOver}
use Rattle.starlark_table.proofs.ahead.first_full.Given as goal

abbrev pub invariant-windows : goal.invariant-windows
invariant-windows g l = PassedOver l.slots l.from l.start

abbrev pub decreases-windows : goal.decreases-windows
decreases-windows g l = length l.slots - l.start
