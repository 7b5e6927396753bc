-- The next index adds its bit to the mask of those before it.
use Rattle.starlark_hash.proofs.Common.{arith}
use Rattle.starlark_vecmap.proofs.Masks.{mask_next}
use Rattle.starlark_vecmap.proofs.hash_search.indices_of_few.Goals as goal

pub overflow_add-mask : goal.overflow_add-mask
overflow_add-mask c = record { fits = (mask_next c.args.hash c.args.block.now c.loop-i.i (omega arith) (omega arith) _ _ c.loop-i.invariant c.from.ensures).1 }

pub loop-i-preserved : goal.loop-i-preserved
loop-i-preserved c = (mask_next c.args.hash c.args.block.now c.loop-i.i (omega arith) (omega arith) _ _ c.loop-i.invariant c.from.ensures).0
