use Rattle.starlark_hash.proofs.Common.{◌≡◌, ℕ, ◌-◌, length, IsPermutation}
use Rattle.starlark_table.specs.Table.{filled}
use Rattle.starlark_table.specs.Layout.{distance, IsTagged, TellsFar}
use Rattle.starlark_table.proofs.BackwardShift.{Closing}
use Rattle.starlark_table.proofs.remove.close_gap.Given as goal

abbrev pub invariant-loop-slot : goal.invariant-loop-slot
invariant-loop-slot g l = record {
  closing : Closing (length l.initial.slots) l.start l.slots l.hole;
  bag : IsPermutation (filled l.initial.slots) (filled l.slots);
  tagged : IsTagged l.tags l.slots;
  known : g.F.Follows.knows l.follower l.slots;
  size : g.F.Follows.size l.follower ≡ g.F.Follows.size l.initial.follower;
  told : (far : ℕ) → TellsFar far l.initial.slots → TellsFar far l.slots;
}

abbrev pub decreases-loop-slot : goal.decreases-loop-slot
decreases-loop-slot g l = length l.initial.slots - distance (length l.initial.slots) l.start l.hole
