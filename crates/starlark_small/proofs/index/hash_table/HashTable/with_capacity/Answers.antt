use Rattle.starlark_hash.proofs.Common.{arith}
use Rattle.starlark_small.proofs.Kept.{keeps-none}
use Rattle.starlark_small.proofs.index.hash_table.HashTable.with_capacity.Goals as goal

pub invariant_of-result : goal.invariant_of-result
invariant_of-result c =
    let made = c.in_ok-table.ensures in let few = c.if-capacity-gt-LONGEST.false in
    (keeps-none _ _ _ made.empty c.in_ok-cells.ensures.items (omega (arith, c.in_ok-cells.ensures.exact, c.room.ensures))
    (omega (arith, made.room, made.load, c.requires), made.fewest 29 (omega (arith, few))) (omega (arith, made.load, made.fewest 29 (omega (arith, few))))).keeps
