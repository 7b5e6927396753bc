use Rattle.std.proofs.Common.{◌≡◌, ◌-◌, ◌≤◌, length, take}
use Rattle.starlark_columns.proofs.ItemsAtFront.{IsFront, items_of}
use Rattle.starlark_columns.proofs.row.Row.truncate.Given as goal

abbrev pub invariant-loop-left : goal.invariant-loop-left
invariant-loop-left g l = IsFront l.self.cells l.left × (items_of l.self.cells ≡ take l.left (items_of l.initial.self.cells)) × (length l.self.cells ≡ length l.initial.self.cells) × (l.self.at ≡ l.initial.self.at) × (l.to ≤ l.left)

abbrev pub decreases-loop-left : goal.decreases-loop-left
decreases-loop-left g l = l.left - l.to
