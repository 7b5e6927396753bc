use Rattle.starlark_hash.proofs.Common.{arith}
use Rattle.starlark_small.proofs.Kept.{keeps-none}
use Rattle.starlark_small.proofs.index.hash_table.HashTable.clear.Goals as goal

pub invariant_of-self : goal.invariant_of-self
invariant_of-self c =
    let k = c.self.invariant in
    let cells = c.clear-then-saturating_mul-saturating_add.ensures in
    (keeps-none _ _ _ c.clear.ensures.empty cells.items (omega (arith, c.clear.ensures.room, k.tight, cells.capacity)) (omega (arith, c.clear.ensures.slots, k.some), omega (arith, c.clear.ensures.slots, k.few)) (omega (arith, c.clear.ensures.room, k.narrow))).keeps
