use Rattle.starlark_columns.proofs.SendSync.{RattleType, Ghosts, IsSend, Frees, PairClaimOf, pair_claim_send}

pub send : (R U A : RattleType) (g : Ghosts A.Denot) → IsSend A → Frees g g.dealloc_token → IsSend (PairClaimOf R U A g)
send R U A g s free = pair_claim_send R U A g free
