use Rattle.std.proofs.Common.{◌≡◌, ◌-◌, length}
use Rattle.starlark_columns.specs.Between.{IsBetween}
use Rattle.starlark_columns.proofs.row.Row.drop_between.Given as goal

abbrev pub invariant-loop-first : goal.invariant-loop-first
invariant-loop-first g l = IsBetween l.self.cells l.first l.to × (length l.self.cells ≡ length l.initial.self.cells) × (l.self.at ≡ l.initial.self.at)

abbrev pub decreases-loop-first : goal.decreases-loop-first
decreases-loop-first g l = l.to - l.first
