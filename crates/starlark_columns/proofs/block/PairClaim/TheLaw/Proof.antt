-- A `&` to a `PairClaim` says which addresses its rows have. Assumes `Logic`.
use Rattle.starlark_columns.proofs.LogicNames.{Laws, copy_shared, RattleType, RawPtr, nothing_shr_laws, field_copy, of_Lends, Lends-nothing, Ghosts}
use denote.Sharing.{said, nothing}
use denote.SharingLaws.{said_shr_laws, beside_shr_laws}
use denote.Struct.Lending.{Lends-both, Lends-said}
use Rattle.core.specs.contracts.marker.PhantomData as mark
use Rattle.starlark_columns.proofs.block.PairClaim.TheLaw.Statement.{statement}
use Rattle.starlark_columns.specs.Pair.{apart}
use Rattle.starlark_columns.specs.contracts.block.PairClaim as claim

pub shares : (R U A : RattleType) (g : Ghosts A.Denot) (L : Laws R) (LU : Laws U) (LA : Laws A) → statement R U A g L LU LA
shares R U A g L LU LA =
    let l = (claim.the_row R U A g).lives in
    of_Lends (claim.struct R U A g) (claim.the_codes R.Denot U.Denot A.Denot R.coded U.coded A.coded (mark.the_row RawPtr).coded) (claim.the_heap R U A g) (claim.the_lent R U A g)
    (λ c p. let far = apart R U c.firsts c.seconds c.count in beside_shr_laws (said far) nothing (said_shr_laws far tt) nothing_shr_laws)
    (copy_shared (mark.the_field RawPtr) (field_copy (mark.the_type RawPtr) tt), tt)
    (λ M 𝓤 𝓛 c p. let far = apart R U c.firsts c.seconds c.count in Lends-both 𝓛 far _ (said far) nothing l (Lends-said 𝓛 far tt l) (Lends-nothing 𝓛 _ l))
