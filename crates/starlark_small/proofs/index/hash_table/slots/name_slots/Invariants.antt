use Rattle.starlark_hash.proofs.Common.{◌≡◌, ◌-◌, length, vec_capacity}
use Rattle.starlark_small.proofs.Slots.{AreNamed}
use Rattle.starlark_small.proofs.index.hash_table.slots.name_slots.Given as goal

abbrev pub invariant-slots : goal.invariant-slots
invariant-slots l = record {
  named : AreNamed l.from l.cells.items l.table.slots;
  even : length l.cells.items ≡ length l.fn.cells.items;
  spare : vec_capacity l.cells ≡ vec_capacity l.fn.cells;
}

abbrev pub decreases-slots : goal.decreases-slots
decreases-slots l = length l.table.slots - l.from
