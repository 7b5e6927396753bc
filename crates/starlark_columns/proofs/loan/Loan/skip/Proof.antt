-- `skip` skips a cell, which stays as it is. Assumes `Logic`.
use Rattle.starlark_columns.proofs.LogicNames.{◌≡◌, ℕ, suc, ◌+◌, ◌<◌, Option, List, [], ◌∷◌, length, refl, sym, arith, flft, SProp, never, id⊢, ◌⊑◌, Lfts, fact, tables, inst_fn, a_type, named, dcons, dnil, Val, vptr, vunit, alloc_all, pass_all, free_all, look_at, sets, ‵, raw, ◌⊛◌, some, later, ◌$◌, ◌∵◌, !, qed, by, move, keep, use2, split, split3, join, pick, rewrite, fsplit, fsplit3, fjoin, fjoin3, feq_i, await, unit_lit, of_opd, returns, enter, param, bounded, RattleType, owns, Ptr, in_a_block, mut_vals, mut_Tells, plain, named_lft, types_at, heard, nothing, opens, closes, Stays, stay_ref, walk_of, Goes-ref, proved, leaves, type_size, tells, toks, list_drop}
use Rattle.starlark_columns.proofs.LentCells.{Left, cell_off, lent_from}
use Rattle.starlark_columns.specs.contracts.loan.Loan as loan
use Rattle.starlark_columns.specs.contracts.loan.Loan.skip as contract
use Rattle.starlark_columns.proofs.loan.Loan.skip as routine

pub skip_spec : {M : Type 1} → routine.Statement.statement M
skip_spec 𝓤 𝓛 𝓜 𝓡 wired X P L LP g dict _ =
    let H = 𝓛.H in let 𝓣 = tables 𝓤 H 𝓜 𝓡 𝓡.env in let En = contract.ended X P g dict in let inst = bounded (a_type ∷ a_type ∷ []) (X, (P, tt)) (dcons dict dnil) in let fn = inst_fn inst routine.Code.function in
    let c = contract.clauses X P g dict 𝓛 𝓜.mem 𝓡.returns in let K : RattleType = param 0 X in let s : ℕ = type_size K in
    let It : Lfts 4 → RattleType = λ κs. loan.the_row (named_lft 4 1 tt κs) K (param 1 P) g in
    let hs : Stays En.signature.params En.kept = (stay_ref (0 ∷ []) tt (plain It), tt) in
    proved 𝓛 En hs c 𝓜 𝓡 (Goes-ref 𝓛 4 0 tt (plain It), tt) (contract.Key.name inst) fn (routine.Code.unfolded 𝓤 H 𝓜 𝓡 wired (X, (P, tt)) dict)
    (λ κs. (mut_vals, tt)) (λ κs. (mut_Tells (named 0) κs.0 (It κs), tt)) (λ κs qs bounds a gh are.
    let κ = κs.0 in let q = qs.0 in let ι = κs.1.0 in let r = qs.1.0 in let R : RattleType = It κs in let self = a.0 in let rb = self.ref_ptr.0 in let ro = self.ref_ptr.1 in let d : R.Denot = self.now in
    let y : (walk_of 𝓛 En hs c).Ghost = ((κs, qs, bounds, a, (vptr rb ro ∷ [], tt)), gh) in let Post : Val → SProp 𝓤 = (walk_of 𝓛 En hs c).post y in
    qed 𝓛 (((‵ (flft κ q) ⊛ ‵ (flft ι r) ⊛ raw (toks 𝓛 2 κs.1.1 qs.1.1)) ⊛ ‵ (owns (types_at En.signature.params κs) a y.0.4)) ∷ raw (fact 𝓤 (κs.1.1.0 ⊑ X.lives)) ∷ raw (fact 𝓤 (κs.1.1.1.0 ⊑ P.lives)) ∷ raw (fact 𝓤 (0 < length d.rest)) ∷ []) ∵
    move ! (3 ∷ []) $ heard ! _ (λ asked. split ! $ split3 ! $ move ! (3 ∷ []) $ fsplit ! $ fsplit3 ! $ keep ! (1 ∷ 2 ∷ 4 ∷ 5 ∷ 6 ∷ []) $
    -- [self's name and borrow; the tokens of κ, ι; the others]
    enter ! _ _ _ _ _ $ alloc_all ! (λ l. pass_all ! refl ((tt, tt), tt) $
    opens ! tt R {h = d} rb ro (λ vs. move ! (1 ∷ []) $ fsplit ! $ move ! (1 ∷ 6 ∷ []) $
    in_a_block ! d.start (λ p. lent_from ι K g.kept p d.from d.name d.rest) (id⊢ 𝓤 (never 𝓤)) (λ b o at.
    use2 𝓛 (later (some (Left K g.kept g.itself 𝓛 ι r b o d.from d.name d.rest))) (cell_off K g.kept g.itself 𝓛 ι r b o d.from d.name d.rest asked) $ await ! tt $ pick ! (λ δ. split ! $
    -- [the cells behind it; the token of ι; the fields; their cell, the open borrow and its names; the others]
    let ps : List (Option X.Denot) = list_drop 1 d.rest in
    rewrite ! 0 (λ (z : Ptr). ‵ (lent_from ι K g.kept z (suc d.from) δ ps)) (sym at) refl $ move ! (2 ∷ 0 ∷ []) $ fjoin ! $ move ! (2 ∷ 0 ∷ 3 ∷ 4 ∷ 5 ∷ []) $
    let new : R.Denot = record { start = d.start; mark = d.mark; name = δ; tie = d.tie; from = suc d.from; rest = ps } in
    closes ! tt R new vs rb ro $ sets ! (of_opd ! (unit_lit !)) refl (tt, tt) $ returns ! (look_at ! 0 refl) $ free_all ! refl $
    -- [self's name and borrow; the tokens of κ, ι; the others]
    feq_i ! (List Val) (vptr rb ro ∷ []) (vptr rb ro ∷ []) refl $ fjoin3 ! $ nothing ! $ move ! (1 ∷ 0 ∷ []) $ fjoin ! $
    -- [self; the tokens of κ, ι; the others]
    move ! (2 ∷ 3 ∷ []) $ join ! $ move ! (2 ∷ 0 ∷ []) $ join ! $ feq_i ! (List Val) (vunit ∷ []) (vunit ∷ []) refl $
    tells ! (d.tie ≡ d.tie) refl $ tells ! (suc d.from ≡ d.from + 1) (omega arith) $ join ! $ tells ! (ps ≡ list_drop 1 d.rest) refl $ join ! $
    move ! (2 ∷ 3 ∷ 1 ∷ 0 ∷ []) $ by ! (leaves 𝓛 En hs c y vunit tt (new, tt) (tt, tt))))))))
