-- Two groups cover a block, so their bits make its mask.
use Rattle.starlark_hash.proofs.Common.{◌-◌, length, arith}
use Rattle.starlark_vecmap.proofs.Masks.{mask_ends}
use Rattle.starlark_vecmap.proofs.hash_search.indices_of_block.Goals as goal

pub overflow_add-result : goal.overflow_add-result
overflow_add-result c = let len = length c.args.block.now in record {
  fits = (mask_ends c.args.hash c.args.block.now 8 (len - 8) (16 - len) (omega arith) (omega arith) c.requires.few _ _ c.indices_of_eight.ensures c.indices_of_eight-last.ensures).1;
}

pub overflow_add-result-else-len-le16 : goal.overflow_add-result-else-len-le16
overflow_add-result-else-len-le16 c = let len = length c.args.block.now in record {
  fits = (mask_ends c.args.hash c.args.block.now 16 (len - 16) (32 - len) (omega arith) (omega arith) c.requires.few _ _ c.indices_of_sixteen.ensures c.indices_of_sixteen-last.ensures).1;
}

pub returns-then-len-le16 : goal.returns-then-len-le16
returns-then-len-le16 c =
    let len = length c.args.block.now in
    (mask_ends c.args.hash c.args.block.now 8 (len - 8) (16 - len) (omega arith) (omega arith) c.requires.few _ _ c.indices_of_eight.ensures c.indices_of_eight-last.ensures).0

pub returns-else-len-le16 : goal.returns-else-len-le16
returns-else-len-le16 c =
    let len = length c.args.block.now in
    (mask_ends c.args.hash c.args.block.now 16 (len - 16) (32 - len) (omega arith) (omega arith) c.requires.few _ _ c.indices_of_sixteen.ensures c.indices_of_sixteen-last.ensures).0
