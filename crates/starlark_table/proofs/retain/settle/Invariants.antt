use Rattle.starlark_hash.proofs.Common.{◌≡◌, ◌<◌}
use Rattle.starlark_table.specs.Layout.{distance, IsTagged}
use Rattle.starlark_table.proofs.BackwardShiftPass.{Steps}
use Rattle.starlark_table.proofs.retain.settle.Given as goal

abbrev pub invariant-loop-step : goal.invariant-loop-step
invariant-loop-step g l = record {
  placed : l.step < l.count → (l.slot < l.count) × (distance l.count l.start l.slot ≡ l.step);
  start_in : l.start < l.count;
  tagged : IsTagged l.tags l.slots;
  steps : Steps l.count l.start l.step l.initial.slots l.slots;
}
