use Rattle.starlark_hash.proofs.Common.{sym, ◌∙◌, arith, bitmask_splat, length-chunk, nat_eq}
use Rattle.std.proofs.Common.{w8}
use lib.Lanes.{chunk}
use Rattle.starlark_table.proofs.TagBits.{tag_bits-chunk}
use Rattle.starlark_table.proofs.tags.slots_with.Goals as goal

pub returns : goal.returns
returns c =
    bitmask_splat w8 nat_eq (chunk c.args.start 16 c.args.tags.now) 16 c.args.tag (length-chunk c.args.start 16 c.args.tags.now c.requires) (omega arith)
    ∙ sym (tag_bits-chunk c.args.tag c.args.tags.now c.args.start 16 c.requires)
