use Rattle.starlark_hash.proofs.Common.{◌≡◌}
use Rattle.starlark_small.specs.Slots.{renamed}
use Rattle.starlark_small.proofs.Slots.{lowered_to}
use Rattle.starlark_small.proofs.index.hash_table.slots.lower_each.Given as goal

abbrev pub invariant-loop-j : goal.invariant-loop-j
invariant-loop-j l = record {
  slots : l.table.slots ≡ renamed (lowered_to l.index l.j) l.fn.table.slots;
  room : l.table.room ≡ l.fn.table.room;
}
