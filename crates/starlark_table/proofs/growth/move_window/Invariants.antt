use Rattle.starlark_hash.proofs.Common.{◌≡◌, ◌++◌, length, IsPermutation}
use Rattle.starlark_table.specs.Table.{filled}
use Rattle.starlark_table.specs.Layout.{InPlace, IsTagged, TellsFar}
use Rattle.starlark_table.proofs.GroupDrain.{EmptyingWindow}
use Rattle.starlark_table.proofs.growth.move_window.Given as goal

abbrev pub invariant-members : goal.invariant-members
invariant-members g l = record {
  sized : length l.slots ≡ length l.initial.slots;
  in_place : InPlace (length l.slots) l.slots;
  tagged : IsTagged l.tags l.slots;
  told : TellsFar l.far l.slots;
  bag : IsPermutation (filled l.initial.from ++ filled l.initial.slots) (filled l.from ++ filled l.slots);
  window : EmptyingWindow l.initial.from l.from l.start l.end l.full;
}

abbrev pub decreases-members : goal.decreases-members
decreases-members g l = l.full
