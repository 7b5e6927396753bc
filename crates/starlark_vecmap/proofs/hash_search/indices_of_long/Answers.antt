-- The mask of all indices but the last, and the bit of the last.
use Rattle.starlark_hash.proofs.Common.{arith}
use Rattle.starlark_vecmap.proofs.Masks.{mask_last}
use Rattle.starlark_vecmap.proofs.hash_search.indices_of_long.Goals as goal

pub overflow_add-result : goal.overflow_add-result
overflow_add-result c = record { fits = (mask_last c.args.hash c.args.array.now (omega arith) c.requires.few _ _ c.indices_of_block-front.ensures c.from.ensures).1 }

pub returns : goal.returns
returns c = (mask_last c.args.hash c.args.array.now (omega arith) c.requires.few _ _ c.indices_of_block-front.ensures c.from.ensures).0
