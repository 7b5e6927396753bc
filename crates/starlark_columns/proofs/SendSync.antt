-- A row is `Send` and `Sync` if its items are. The right to a block is `Send` if its allocator may be called from any
-- thread, and always `Sync`.
use Rattle.starlark_columns.proofs.LogicNames.{◌+◌, ◌*◌, List, [], ◌∷◌, Option, Some, None, type_size, Bool, true, false, cond, eqb, Ty, size, Fml, ftrue, fsep, full_share, lone}
pub use Rattle.starlark_columns.proofs.LogicNames.{RattleType, Ghosts}
use base.Shift.{Keyless}
pub use denote.Param.Send.{IsSend, IsSync, Frees}
use denote.Param.Send.{Common, AllSend, part_keyless, owning_send, struct_send, struct_sync, sendable}
use denote.RawPtr.{Ptr, block_ptr, null_ptr, in_block, room_for}
use denote.Struct.Owning.{shape, fields, to}
use denote.Struct.Struct.{exits_of}
use Rattle.std_alloc.proofs.SendSync.{FreesAnywhere, quiet, seen}
use Rattle.starlark_columns.specs.Ownership.{cells_owned, within_lent}
pub use Rattle.starlark_columns.proofs.RowValues.{RowOf, ClaimOf, PairClaimOf}
use Rattle.starlark_columns.specs.contracts.block as block
use Rattle.starlark_columns.specs.contracts.row.Row as row
use Rattle.starlark_columns.specs.Pair.{rooms_rejoin}

either_keyless : (x : Bool) (F : Fml) → Keyless F → Keyless (cond x ftrue F)
either_keyless true F k = tt
either_keyless false F k = k

module _ (R : RattleType) where
  owned_keyless : IsSend R → (p : Ptr) (cs : List (Option R.Denot)) → Keyless (in_block p (cells_owned R p cs))
  owned_keyless s null_ptr cs = tt
  owned_keyless s (block_ptr b o) [] = tt
  owned_keyless s (block_ptr b o) (None ∷ cs) = (tt, owned_keyless s (block_ptr b (o + type_size R)) cs)
  owned_keyless s (block_ptr b o) (Some x ∷ cs) = (part_keyless R s full_share x b o, owned_keyless s (block_ptr b (o + type_size R)) cs)

  lent_common : IsSync R → (p : Ptr) (cs : List (Option R.Denot)) → Common (within_lent R p cs)
  lent_common y null_ptr cs κ = tt
  lent_common y (block_ptr b o) [] κ = tt
  lent_common y (block_ptr b o) (None ∷ cs) κ = (tt, lent_common y (block_ptr b (o + type_size R)) cs κ)
  lent_common y (block_ptr b o) (Some x ∷ cs) κ = (seen R y (block_ptr b o) x κ, lent_common y (block_ptr b (o + type_size R)) cs κ)

  pub row_send : IsSend R → IsSend (RowOf R)
  row_send s =
      let T = row.the_type R in let marks : AllSend (fields T) = (search sendable, tt) in
      owning_send T marks (λ h. (tt, owned_keyless s h.at h.cells)) (λ k. quiet (to T) (exits_of k (fields T)) ((struct_send (shape T) marks).leaving k))

  pub row_sync : IsSync R → IsSync (RowOf R)
  row_sync y = let T = row.the_type R in record { shared = λ h b o κ. ((struct_sync (shape T) (search sendable, tt)).shared (to T h) b o κ, (tt, lent_common y h.at h.cells κ)) }

  module _ (A : RattleType) (g : Ghosts A.Denot) where
    pub claim_send : FreesAnywhere A.Denot g → IsSend (ClaimOf R A g)
    claim_send free =
        let T = block.Claim.the_type R A g in let marks : AllSend (fields T) = (search sendable, tt) in
        owning_send T marks (λ c. either_keyless (eqb (c.count * type_size R) 0) (g.dealloc_token c.alloc _ c.at) (free.frees c.alloc _ c.at)) (λ k. quiet (to T) (exits_of k (fields T)) ((struct_send (shape T) marks).leaving k))

    pub claim_sync : IsSync (ClaimOf R A g)
    claim_sync = let T = block.Claim.the_type R A g in record { shared = λ c b o κ. ((struct_sync (shape T) (search sendable, tt)).shared (to T c) b o κ, tt) }

room_keyless : (τ : Ty) (p : Ptr) → Keyless (room_for τ p)
room_keyless τ null_ptr = tt
room_keyless τ (block_ptr b o) = tt

module _ (R U A : RattleType) (g : Ghosts A.Denot) where
  pub pair_claim_send : FreesAnywhere A.Denot g → IsSend (PairClaimOf R U A g)
  pair_claim_send free =
      let T = block.PairClaim.the_type R U A g in let marks : AllSend (fields T) = (search sendable, tt) in
      owning_send T marks (λ c. let owed = fsep (g.dealloc_token c.alloc _ c.firsts) (rooms_rejoin (lone R.mir) (lone U.mir) c.firsts c.seconds c.count) in
      (tt, either_keyless (eqb (c.count * (size (lone R.mir) + size (lone U.mir))) 0) owed (free.frees c.alloc _ c.firsts, ((room_keyless _ c.firsts, room_keyless _ c.seconds), room_keyless _ c.firsts))))
      (λ k. quiet (to T) (exits_of k (fields T)) ((struct_send (shape T) marks).leaving k))

  pub pair_claim_sync : IsSync (PairClaimOf R U A g)
  pair_claim_sync = let T = block.PairClaim.the_type R U A g in record { shared = λ c b o κ. ((struct_sync (shape T) (search sendable, tt)).shared (to T c) b o κ, (tt, tt)) }
