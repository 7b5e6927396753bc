-- The parts of a `Perhaps`. No public clause cites this module.
use Rattle.std.specs.Prelude.{◌≡◌, List, [], ◌∷◌, Option, Some, None}
use Rattle.std.specs.declared.alloc.Global.{Global}
use denote.RawPtr.{Ptr, null_ptr, InBlock, Testable}
use Rattle.starlark_columns.specs.declared.block.Address.{Address}
use Rattle.starlark_columns.specs.declared.block.Claim.{Claim}
use Rattle.starlark_columns.specs.declared.row.Row.{Row}
use Rattle.starlark_columns.specs.Block.{IsClaimTo}

module _ {X : Type 0} where
  -- either the address and the claim are those of one full cell at q, or there is no cell and the address is null
  abbrev pub IsItemAt : Ptr → Ptr → Claim X Global → List (Option X) → Type 0
  IsItemAt p q claim [] = (p ≡ null_ptr) × (claim.count ≡ 0)
  IsItemAt p q claim (None ∷ cs) = ⊥
  IsItemAt p q claim (Some x ∷ []) = (p ≡ q) × IsClaimTo p 1 claim × InBlock p
  IsItemAt p q claim (Some x ∷ (c ∷ cs)) = ⊥

  -- one item in a block of its own, or none and a null address; either way the address may be compared with null
  abbrev pub IsPerhaps : Address X → Row X → Claim X Global → Type 0
  IsPerhaps address row claim = Testable address.at × IsItemAt address.at row.at claim row.cells
