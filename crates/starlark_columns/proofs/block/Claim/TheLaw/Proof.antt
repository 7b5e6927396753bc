-- A `&` to a `Claim` lends nothing. Assumes `Logic`.
use Rattle.starlark_columns.proofs.LogicNames.{Laws, copy_shared, RattleType, RawPtr, nothing_shr_laws, field_copy, of_Lends, Lends-nothing, Ghosts}
use Rattle.core.specs.contracts.marker.PhantomData as mark
use Rattle.starlark_columns.proofs.block.Claim.TheLaw.Statement.{statement}
use Rattle.starlark_columns.specs.contracts.block.Claim as claim

pub shares : (R A : RattleType) (g : Ghosts A.Denot) (L : Laws R) (LA : Laws A) → statement R A g L LA
shares R A g L LA =
    let l = (claim.the_row R A g).lives in
    of_Lends (claim.struct R A g) (claim.the_codes R.Denot A.Denot R.coded A.coded (mark.the_row RawPtr).coded) (claim.the_heap R A g) (claim.the_lent R A g) (λ c p. nothing_shr_laws)
    (copy_shared (mark.the_field RawPtr) (field_copy (mark.the_type RawPtr) tt), tt) (λ M 𝓤 𝓛 c p. Lends-nothing 𝓛 (claim.the_heap R A g c) l)
