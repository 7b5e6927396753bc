use Rattle.starlark_hash.proofs.Common.{ℕ, ◌-◌, ◌<◌, ◌≤◌, length, IsSome}
use Rattle.starlark_table.specs.Layout.{distance, at}
use Rattle.starlark_table.proofs.retain.free_before.Given as goal

abbrev pub invariant-loop-slot : goal.invariant-loop-slot
invariant-loop-slot g l = record {
  in_range : l.slot < length l.slots;
  near : distance (length l.slots) l.start l.slot ≤ distance (length l.slots) l.start l.end;
  path : (q : ℕ) → q < length l.slots → distance (length l.slots) l.start q < distance (length l.slots) l.start l.slot → IsSome (at l.slots q);
}

abbrev pub decreases-loop-slot : goal.decreases-loop-slot
decreases-loop-slot g l = length l.slots - distance (length l.slots) l.start l.slot
