use Rattle.std.proofs.Common.{◌≡◌, length, take}
use Rattle.std.specs.List.{AllZip}
use Rattle.starlark_columns.proofs.ItemsAtFront.{IsFront, items_of}
use Rattle.starlark_columns.proofs.row.Row.clone_items.Given as goal

abbrev pub invariant-loop-made : goal.invariant-loop-made
invariant-loop-made g l = IsFront l.to.cells l.made × (length l.to.cells ≡ length l.initial.to.cells) × AllZip g.T.Clone.is_clone (take l.made (items_of l.self.cells)) (items_of l.to.cells) × (l.to.at ≡ l.initial.to.at)
