use Rattle.starlark_columns.proofs.SendSync.{RattleType, Ghosts, IsSync, PairClaimOf, pair_claim_sync}

pub sync : (R U A : RattleType) (g : Ghosts A.Denot) → IsSync (PairClaimOf R U A g)
sync = pair_claim_sync
