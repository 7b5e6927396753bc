-- Two groups cover the array, so their bits make its mask.
use Rattle.starlark_hash.proofs.Common.{◌-◌, length, arith}
use Rattle.starlark_vecmap.proofs.Masks.{mask_ends}
use Rattle.starlark_vecmap.proofs.hash_search.indices_of_short.Goals as goal

pub returns : goal.returns
returns c =
    let len = length c.args.array.now in
    (mask_ends c.args.hash c.args.array.now 4 (len - 4) (8 - len) (omega arith) (omega arith) (omega arith) _ _ c.indices_of_four.ensures c.indices_of_four-last.ensures).0
