use Rattle.starlark_hash.proofs.Common.{◌≡◌, ℕ, ◌-◌, ◌<◌, ◌++◌, length, None, IsPermutation}
use Rattle.starlark_table.specs.Table.{filled}
use Rattle.starlark_table.specs.Layout.{at, InPlace, IsTagged, IsTaggedFrom, TellsFar}
use Rattle.starlark_table.proofs.growth.move_all.Given as goal

abbrev pub invariant-windows : goal.invariant-windows
invariant-windows g l = record {
  sized : length l.slots ≡ length l.initial.slots;
  in_place : InPlace (length l.slots) l.slots;
  tagged : IsTagged l.tags l.slots;
  told : TellsFar l.far l.slots;
  old_sized : length l.old ≡ length l.initial.old;
  old_tagged : IsTaggedFrom l.start l.old_tags l.old;
  emptied : (p : ℕ) → p < l.start → at l.old p ≡ None;
  bag : IsPermutation (filled l.initial.old ++ filled l.initial.slots) (filled l.old ++ filled l.slots);
}

abbrev pub decreases-windows : goal.decreases-windows
decreases-windows g l = length l.old - l.start
