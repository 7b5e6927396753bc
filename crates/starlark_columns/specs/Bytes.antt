-- The parts of a `Bytes`. No public clause cites this module.
use Rattle.std.specs.Prelude.{◌≡◌, ℕ, length}
use Rattle.std.specs.declared.alloc.Global.{Global}
use Rattle.starlark_columns.specs.Block.{IsClaimTo}
use Rattle.starlark_columns.specs.Front.{IsFront}
use Rattle.starlark_columns.specs.declared.row.Row.{Row}
use Rattle.starlark_columns.specs.declared.block.Address.{Address}
use Rattle.starlark_columns.specs.declared.block.Claim.{Claim}

-- the row is at the address, each of its cells has a byte, and the claim is for them
abbrev pub IsBytes : Address ℕ → Row ℕ → Claim ℕ Global → Type 0
IsBytes address row claim = (row.at ≡ address.at) × IsFront row.cells (length row.cells) × IsClaimTo address.at (length row.cells) claim
