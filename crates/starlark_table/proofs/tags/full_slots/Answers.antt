use Rattle.starlark_hash.proofs.Common.{arith, bitmask_splat, length-chunk, nat_lt}
use Rattle.std.proofs.Common.{w8}
use lib.Lanes.{chunk}
use Rattle.starlark_table.specs.Layout.{padding}
use Rattle.starlark_table.proofs.FullBits.{bits_where-chunk}
use Rattle.starlark_table.proofs.tags.full_slots.Goals as goal

pub returns-then-tags-start-lt-WIDE_WINDOW-clause-bits : goal.returns-then-tags-start-lt-WIDE_WINDOW-clause-bits
returns-then-tags-start-lt-WIDE_WINDOW-clause-bits c =
    grind (
      arith,
      bitmask_splat w8 nat_lt (chunk c.args.start 16 c.args.tags.now) 16 padding (length-chunk c.args.start 16 c.args.tags.now (omega arith)) (omega arith),
      bits_where-chunk (λ t. nat_lt t padding) c.args.tags.now c.args.start 16 (omega arith),
    )

pub returns-else-tags-start-lt-WIDE_WINDOW-clause-bits : goal.returns-else-tags-start-lt-WIDE_WINDOW-clause-bits
returns-else-tags-start-lt-WIDE_WINDOW-clause-bits c =
    grind (
      arith,
      bitmask_splat w8 nat_lt (chunk c.args.start 64 c.args.tags.now) 64 padding (length-chunk c.args.start 64 c.args.tags.now (omega arith)) (omega arith),
      bits_where-chunk (λ t. nat_lt t padding) c.args.tags.now c.args.start 64 (omega arith),
    )
