use Rattle.starlark_hash.proofs.Common.{◌≡◌, ◌-◌, length}
use Rattle.starlark_table.specs.Layout.{IsTaggedFrom}
use Rattle.starlark_table.specs.Walk.{ReplacesWithin}
use Rattle.starlark_table.proofs.replace.replace_items.Given as goal

abbrev pub invariant-windows : goal.invariant-windows
invariant-windows g l = record {
  sized : length l.slots ≡ length l.initial.slots;
  tagged : IsTaggedFrom l.start l.tags l.slots;
  replaced : ReplacesWithin g.F.FnMut l.fn.f l.initial.slots l.slots l.f 0 l.start;
}

abbrev pub decreases-windows : goal.decreases-windows
decreases-windows g l = length l.slots - l.start
