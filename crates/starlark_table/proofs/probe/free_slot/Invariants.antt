use Rattle.starlark_hash.proofs.Common.{◌≡◌, ℕ, ◌-◌, ◌<◌, length, IsSome}
use Rattle.starlark_table.specs.Layout.{distance, at, tag_bits, empty_tag}
use Rattle.starlark_table.proofs.probe.free_slot.Given as goal

abbrev pub invariant-windows : goal.invariant-windows
invariant-windows g l = record {
  in_range : l.start < length l.slots;
  path : (q : ℕ) → q < length l.slots → distance (length l.slots) l.home q < distance (length l.slots) l.home l.start → IsSome (at l.slots q);
  its : l.empty ≡ tag_bits empty_tag l.tags l.start 16;
}

abbrev pub decreases-windows : goal.decreases-windows
decreases-windows g l = length l.slots - distance (length l.slots) l.home l.start
