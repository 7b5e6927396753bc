use Rattle.std.proofs.Common.{◌≡◌, length, replicate}
use Rattle.starlark_columns.proofs.ItemsAtFront.{IsFront, items_of}
use Rattle.starlark_columns.proofs.bytes.Bytes.filled.Given as goal

abbrev pub invariant-loop-made : goal.invariant-loop-made
invariant-loop-made l = IsFront l.row.cells l.made × (items_of l.row.cells ≡ replicate l.made l.byte) × (length l.row.cells ≡ l.count) × (l.row.at ≡ l.address.at)
