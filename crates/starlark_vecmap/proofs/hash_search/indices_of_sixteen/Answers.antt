-- One comparison of sixteen hashes gives their bits.
use Rattle.starlark_hash.proofs.Common.{nat_eq, arith, chunk, bitmask_splat, length-chunk}
use Rattle.std.proofs.Common.{w32}
use Rattle.starlark_vecmap.proofs.hash_search.indices_of_sixteen.Goals as goal

pub returns : goal.returns
returns c = bitmask_splat w32 nat_eq (chunk c.args.start 16 c.args.block.now) 16 c.args.hash (length-chunk c.args.start 16 c.args.block.now (omega arith)) (omega arith)
