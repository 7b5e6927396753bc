use Rattle.starlark_columns.proofs.SendSync.{RattleType, Ghosts, IsSync, ClaimOf, claim_sync}

pub sync : (R A : RattleType) (g : Ghosts A.Denot) → IsSync (ClaimOf R A g)
sync = claim_sync
