-- `told` learns the addresses of both rows from what a `&` to the right says. Assumes `Logic`.
use Rattle.starlark_columns.proofs.LogicNames.{◌≡◌, ℕ, List, [], ◌∷◌, refl, sym, ap, subst, ftrue, flft, ◌⊑◌, fact, inst_fn, a_type, named, Val, vunit, vptr, alloc_all, pass_all, free_all, look_at, sets, ‵, raw, ◌⊛◌, ◌$◌, ◌∵◌, !, qed, by, move, keep, split, fsplit, feq_i, feq_l, unit_lit, of_opd, returns, enter, param, layouts, RattleType, owns, Ptr, unhide, Bor, shr_vals, shr_Tells, types_at, walk_of, proved, leaves, ghosts, tells, spent, drops, drops_go, InBlock, toks}
use Rattle.starlark_columns.proofs.RowValues.{PairClaimOf, behind}
use Rattle.std.specs.contracts.alloc.Global as heap
use Rattle.starlark_columns.specs.contracts.block.PairClaim+T+U+Global.told as contract
use Rattle.starlark_columns.proofs.block.PairClaim+T+U+Global.told as routine

pub told_spec : {M : Type 1} → routine.Statement.statement M
told_spec 𝓤 𝓛 𝓜 𝓡 wired X Y L LY =
    let inst = layouts (a_type ∷ a_type ∷ []) (X, (Y, tt)) in let En = contract.ended X Y in let c = contract.clauses X Y 𝓛 𝓜.mem 𝓡.returns in
    let R : RattleType = param 0 X in let S : RattleType = param 1 Y in let Right = PairClaimOf R S heap.the_row ghosts in let hs = drops En in
    proved 𝓛 En hs c 𝓜 𝓡 (drops_go 𝓛 En (λ κs x f. refl, tt)) (contract.Key.name inst) (inst_fn inst routine.Code.function) (routine.Code.unfolded 𝓤 𝓛.H 𝓜 𝓡 wired (X, (Y, tt)))
    (λ κs. (shr_vals, tt)) (λ κs. (shr_Tells (named 0) κs.0 Right, tt)) (λ κs qs bounds a gh are.
    let self : Bor Right.Denot = a.0 in let rb : ℕ = self.ref_ptr.0 in let ro : ℕ = self.ref_ptr.1 in let right : Right.Denot = self.now in let p : Ptr = right.firsts in let q : Ptr = right.seconds in
    let y : (walk_of 𝓛 En hs c).Ghost = ((κs, qs, bounds, a, (vptr rb ro ∷ [], tt)), gh) in
    qed 𝓛 (((‵ (flft κs.0 qs.0) ⊛ raw (toks 𝓛 2 κs.1 qs.1)) ⊛ ‵ (owns (types_at En.signature.params κs) a y.0.4)) ∷ raw (fact 𝓤 (κs.1.0 ⊑ X.lives)) ∷ raw (fact 𝓤 (κs.1.1.0 ⊑ Y.lives)) ∷ ‵ ftrue ∷ []) ∵
    keep ! (0 ∷ []) $ split ! $ move ! (1 ∷ []) $ fsplit ! $ fsplit ! $ keep ! (1 ∷ 3 ∷ []) $
    unhide ! $ fsplit ! $ move ! (1 ∷ []) $ fsplit ! $ feq_l ! (λ e. keep ! (2 ∷ []) $
    enter ! _ _ _ _ _ $ alloc_all ! (λ l. pass_all ! refl ((tt, tt), tt) $ sets ! (of_opd ! (unit_lit !)) refl (tt, tt) $ returns ! (look_at ! 0 refl) $ free_all ! refl $
    feq_i ! (List Val) (vunit ∷ []) (vunit ∷ []) refl $ tells ! (InBlock p × (q ≡ behind R S right.count p)) (subst InBlock (sym (ap (λ (z : Ptr × Ptr). z.0) e)) tt, ap (λ (z : Ptr × Ptr). z.1) e) $ spent ! 1 $
    move ! (3 ∷ 0 ∷ 2 ∷ 1 ∷ []) $ by ! (leaves 𝓛 En hs c y vunit tt (tt, tt) (tt, tt)))))
