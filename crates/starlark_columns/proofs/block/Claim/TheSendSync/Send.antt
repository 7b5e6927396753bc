use Rattle.starlark_columns.proofs.SendSync.{RattleType, Ghosts, IsSend, Frees, ClaimOf, claim_send}

pub send : (R A : RattleType) (g : Ghosts A.Denot) → IsSend A → Frees g g.dealloc_token → IsSend (ClaimOf R A g)
send R A g s free = claim_send R A g free
