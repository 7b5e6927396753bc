-- Where a row lies, which block a claim is for, and the parts of a column.
use Rattle.std.specs.Prelude.{◌≡◌, length, ℕ}
use Rattle.std.specs.declared.alloc.Global.{Global}
use denote.RattleType.{RattleType}
use denote.RawPtr.{Ptr, InBlock}
use Rattle.starlark_columns.specs.declared.row.Row.{Row}
use Rattle.starlark_columns.specs.Pair.{behind}
use Rattle.starlark_columns.specs.declared.block.PairClaim.{PairClaim}
use Rattle.starlark_columns.specs.declared.block.Spot.{Spot}
use Rattle.starlark_columns.specs.declared.block.Address.{Address}
use Rattle.starlark_columns.specs.declared.block.Claim.{Claim}

module _ {X : Type 0} where
  -- the row begins at the spot's address, and has as many cells as the spot says
  abbrev pub LiesAt : Spot X → Row X → Type 0
  LiesAt spot r = (spot.address.at ≡ r.at) × (spot.count ≡ length r.cells)

module _ {A B : Type 0} where
  -- the claim, which is the right to deallocate a block, is for the block of these two rows, which have the same number
  -- of cells
  abbrev pub IsBlockOf : PairClaim A B Global → Row A → Row B → Type 0
  IsBlockOf block r s = (block.firsts ≡ r.at) × (block.seconds ≡ s.at) × (block.count ≡ length r.cells) × (block.count ≡ length s.cells)

  -- the block begins at the spot's address, and each of its rows has as many cells as the spot says
  abbrev pub IsSpotOf : Spot A → PairClaim A B Global → Type 0
  IsSpotOf spot block = (spot.count ≡ block.count) × (spot.address.at ≡ block.firsts)

module _ (R S : RattleType) where
  -- the spot is in a block, and p is where the second row begins there
  abbrev pub IsBehind : Spot R.Denot → Ptr → Type 0
  IsBehind spot p = InBlock spot.address.at × (p ≡ behind R S spot.count spot.address.at)

module _ {X : Type 0} where
  -- the claim is for the n cells at p
  abbrev pub IsClaimTo : Ptr → ℕ → Claim X Global → Type 0
  IsClaimTo p n c = (c.at ≡ p) × (c.count ≡ n)

  -- the row of n cells is at the address, and the claim is for them
  abbrev pub IsColumn : Address X → ℕ → Row X → Claim X Global → Type 0
  IsColumn address n row claim = (row.at ≡ address.at) × (length row.cells ≡ n) × IsClaimTo address.at n claim
