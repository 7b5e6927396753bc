-- `take_pair` gives a `&` to the first part of the pair in the next cell, which stays, and a `&mut` to the second.
-- Assumes `Logic`.
use Rattle.starlark_columns.proofs.LogicNames.{◌≡◌, ℕ, suc, ◌+◌, ◌*◌, ◌<◌, ◌^◌, Option, Some, List, [], ◌∷◌, refl, sym, ap, subst, arith, w64, GName, Incl-trans, flft, full_share, SProp, never, id⊢, ◌⊑◌, Lfts, fact, tables, inst_fn, a_type, named, Val, vint, vptr, vstruct, vcons, vnil, alloc_all, pass_all, free_all, look_at, get, through, is, sets, sets_last, env, Item, ‵, raw, ◌⊛◌, some, later, at_ret, ◌$◌, ◌∵◌, !, qed, by, move, keep, use2, split, split3, join, pick, rewrite, fsplit, fsplit3, fjoin, fjoin3, feq_i, await, whole, sub, look_in, agg, and_then, no_more, stop, fld, load, bin, addr, size_word, of_opd, first, blocks, exec, returns, enter, usize, yes, shows, cell_at, param, layouts, param_laws, uint_vals, uint_Tells, RattleType, owns, Ptr, in_a_block, Bor, MutBor, MutRef, ShrRef, mut_vals, mut_Tells, plain, named_lft, types_at, heard, peeks, opens, closes, Tuple, Stays, stay_ref, stay_dropped, walk_of, Goes-ref, Goes-dropped, after, uncapped, proved, leaves, type_size, IsFilled, learn, block_ptr, tells, spent, toks, list_drop}
use Rattle.starlark_columns.proofs.EntryParts.{Out, pair_out, part, first_at, second_at, as_tuple}
use Rattle.starlark_columns.proofs.LentCells.{Off, item_off, loan_told, lent_from}
use Rattle.starlark_columns.specs.contracts.loan as loan
use Rattle.starlark_columns.specs.contracts.loan.Loan+tuple2+A+B+First.take_pair as contract
use Rattle.starlark_columns.proofs.loan.Loan+tuple2+A+B+First.take_pair as routine

pub take_pair_spec : {M : Type 1} → routine.Statement.statement M
take_pair_spec 𝓤 𝓛 𝓜 𝓡 wired X Y L LY =
    let H = 𝓛.H in let 𝓣 = tables 𝓤 H 𝓜 𝓡 𝓡.env in let En = contract.ended X Y in let inst = layouts (a_type ∷ a_type ∷ []) (X, (Y, tt)) in let fn = inst_fn inst routine.Code.function in
    let c = contract.clauses X Y 𝓛 𝓜.mem 𝓡.returns in let A : RattleType = param 0 X in let B : RattleType = param 1 Y in let K : RattleType = Tuple (A ∷ B ∷ []) in let s : ℕ = type_size K in let g = loan.FirstKeepsTuple2.TheImpl.ghosts A B in
    let One : Type 0 = X.Denot × Y.Denot in
    let It : Lfts 4 → RattleType = λ κs. loan.Loan.the_row (named_lft 4 1 tt κs) K loan.First.the_row g in
    let hs : Stays En.signature.params En.kept = (stay_ref (0 ∷ []) tt (plain It), (stay_dropped (plain (λ _. usize)) yes, tt)) in
    proved 𝓛 En hs c 𝓜 𝓡 (Goes-ref 𝓛 4 0 tt (plain It), (Goes-dropped 𝓛 4 (plain (λ _. usize)) yes (λ κs x f. refl), tt)) (contract.Key.name inst) fn (routine.Code.unfolded 𝓤 H 𝓜 𝓡 wired (X, (Y, tt)))
    (λ κs. (mut_vals, (uint_vals w64, tt))) (λ κs. (mut_Tells (named 0) κs.0 (It κs), (uint_Tells w64, tt))) (λ κs qs bounds a gh are.
    let κ = κs.0 in let q = qs.0 in let ι = κs.1.0 in let r = qs.1.0 in let R : RattleType = It κs in let i : ℕ = a.1.0 in let self = a.0 in let rb = self.ref_ptr.0 in let ro = self.ref_ptr.1 in let d : R.Denot = self.now in
    let y : (walk_of 𝓛 En hs c).Ghost = ((κs, qs, bounds, a, (vptr rb ro ∷ [], (vint w64 i ∷ [], tt))), gh) in let Post : Val → SProp 𝓤 = (walk_of 𝓛 En hs c).post y in
    qed 𝓛 (((‵ (flft κ q) ⊛ ‵ (flft ι r) ⊛ raw (toks 𝓛 2 κs.1.1 qs.1.1)) ⊛ ‵ (owns (types_at En.signature.params κs) a y.0.4)) ∷ raw (fact 𝓤 (κs.1.1.0 ⊑ X.lives)) ∷ raw (fact 𝓤 (κs.1.1.1.0 ⊑ Y.lives)) ∷ raw (fact 𝓤 (i ≡ d.from)) ∷ raw (fact 𝓤 (IsFilled d.rest 0)) ∷ []) ∵
    move ! (1 ∷ 3 ∷ 4 ∷ []) $ heard ! _ (λ la. heard ! _ (λ next. heard ! _ (λ full. split ! $ split3 ! $ move ! (3 ∷ []) $ fsplit ! $ fsplit3 ! $ keep ! (1 ∷ 2 ∷ 4 ∷ 5 ∷ 6 ∷ []) $
    -- [self's name and borrow; the tokens of κ, ι; the others]
    enter ! _ _ _ _ _ $ alloc_all ! (λ l. pass_all ! refl ((tt, tt), ((tt, record { fits = are.1.0.1 }), tt)) $ let Ev = env fn.locals l in
    opens ! tt R {h = d} rb ro (λ vs. move ! (1 ∷ []) $ peeks ! R _ (shows 𝓛 R) d vs (λ shown. fsplit ! $ move ! (1 ∷ 6 ∷ []) $
    in_a_block ! d.start (λ p. lent_from ι K g.kept p d.from d.name d.rest) (id⊢ 𝓤 (never 𝓤)) (λ b o at. rewrite ! 0 (λ (k : ℕ). ‵ (lent_from ι K g.kept (block_ptr b o) k d.name d.rest)) (sym next) refl $
    use2 𝓛 (later (some (Off K g.kept g.itself 𝓛 ι r b o i d.name d.rest full))) (item_off K g.kept g.itself 𝓛 ι r b o i d.name d.rest full) $ await ! tt $ pick ! (λ γs. learn ! (λ off. split3 ! $
    -- [the item; the cells behind it; the token of ι; the fields; their cell, the open borrow and its names; the others]
    let x : One = full.0 in let ps : List (Option One) = list_drop 1 d.rest in let begin : ℕ = i * s + o in let far = off.1 in let word = loan_told (named_lft 4 1 tt κs) K loan.First.the_row g d vs b o shown at in
    rewrite ! 4 (λ (ws : List Val). ‵ (cell_at full_share R.mir ws rb ro)) word refl $ first ! $ blocks ! $
    sets ! (of_opd ! (load ! (through ! refl (fld ! refl (stop !))) (look_in ! 4 (sub ! 0 refl (whole !))))) refl (tt, tt) $
    sets ! (is ! (bin ! (get ! refl) (size_word !) (record { fits = subst (λ (k : ℕ). k < 2 ^ 64) (sym (uncapped i s far)) far })) (ap (vint w64) (uncapped i s far))) refl (tt, record { fits = far }) $
    sets ! (bin ! (get ! refl) (get ! refl) tt) refl (tt, tt) $ rewrite ! 4 (λ (ws : List Val). ‵ (cell_at full_share R.mir ws rb ro)) (sym word) refl $
    let long = Incl-trans bounds.1.1.1.0 la in let LA = param_laws 0 X L in let LB = param_laws 1 Y LY in let Pairs : GName → Item 𝓤 = Out (part A) (part B) LA LB 𝓛 ι r b begin γs.0 (named 1) long x in
    move ! (0 ∷ 2 ∷ []) $ use2 𝓛 (later (some Pairs)) (pair_out (part A) (part B) LA LB 𝓛 ι r b begin γs.0 (named 1) long x) $ await ! tt $ pick ! (λ δ. split3 ! $
    -- [the `&`; the `&mut`; the token of ι; the cells; the fields; their cell, the open borrow and its names; the others]
    let k : Bor X.Denot = record { ref_ptr = (b, first_at (part A) (part B) begin); now = x.0 } in let v : MutBor Y.Denot = record { ref_ptr = (b, second_at (part A) (part B) begin); ghost_name = δ; now = x.1 } in
    let out : Val = vstruct (vcons (vptr b k.ref_ptr.1) (vcons (vptr b v.ref_ptr.1) vnil)) in
    move ! (3 ∷ []) $ rewrite ! 0 (λ (z : Ptr). ‵ (lent_from ι K g.kept z (suc i) γs.1 ps)) (sym at) refl $ move ! (4 ∷ 0 ∷ []) $ fjoin ! $ move ! (4 ∷ 0 ∷ 5 ∷ 6 ∷ 7 ∷ []) $
    let new : R.Denot = record { start = d.start; mark = d.mark; name = γs.1; tie = d.tie; from = suc i; rest = ps } in
    closes ! tt R new vs rb ro $ sets ! (addr ! (through ! refl (fld ! refl (stop !)))) refl (tt, tt) $ sets ! (addr ! (through ! refl (fld ! refl (stop !)))) refl (tt, tt) $
    sets_last ! (agg ! (and_then ! (get ! refl) (and_then ! (get ! refl) (no_more !)))) refl (tt, (tt, (tt, tt))) $
    exec ! 𝓣.C 𝓣.Λ Ev (after 1 fn.body) (at_ret Ev Post) $ sets ! (of_opd ! (get ! refl)) refl (tt, (tt, (tt, tt))) $ returns ! (look_at ! 0 refl) $ free_all ! refl $
    -- [self's name and borrow; the token of κ; the `&`; the `&mut`; the token of ι; the others]
    feq_i ! (List Val) (vptr rb ro ∷ []) (vptr rb ro ∷ []) refl $ fjoin3 ! $ spent ! 1 $ move ! (1 ∷ 0 ∷ []) $ fjoin ! $
    move ! (4 ∷ 5 ∷ []) $ join ! $ move ! (2 ∷ 0 ∷ []) $ join ! $ move ! (2 ∷ 3 ∷ []) $
    use2 𝓛 (‵ ((Tuple (ShrRef (named 1) ι A ∷ MutRef (named 1) ι B ∷ [])).own_val (k, v) (out ∷ []))) (as_tuple 𝓛 (ShrRef (named 1) ι A) (MutRef (named 1) ι B) k v (vptr b k.ref_ptr.1) (vptr b v.ref_ptr.1)) $
    -- [the references; the tokens; self]
    tells ! (d.tie ≡ d.tie) refl $ tells ! (suc i ≡ d.from + 1) (omega arith) $ join ! $ tells ! (d.rest ≡ Some x ∷ ps) off.0 $ join ! $
    move ! (2 ∷ 3 ∷ 1 ∷ 0 ∷ []) $ by ! (leaves 𝓛 En hs c y out (k, v) (new, (tt, tt)) (tt, (tt, tt))))))))))))))
