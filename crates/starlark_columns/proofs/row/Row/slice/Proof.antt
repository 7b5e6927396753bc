-- `slice` shows a run of items that the cells lend. Assumes `Logic`.
use Rattle.starlark_columns.proofs.LogicNames.{◌≡◌, ◌+◌, ◌-◌, Some, ℕ, ◌*◌, ◌<◌, ◌^◌, Option, List, [], ◌∷◌, map, length, refl, sym, ap, subst, ◌∙◌, arith, w64, ftrue, fat, flft, full_share, SProp, never, id⊢, ◌⊑◌, fact, tables, inst_fn, a_type, named, ty_ptr, Val, vint, vptr, has_ty, WT, alloc_all, pass_all, free_all, look_at, take_at, give_at, get, get_in, is, sets, sets_last, env, ‵, raw, ◌⊛◌, at_ret, ◌$◌, ◌∵◌, !, qed, by, move, keep, use1, split, rewrite, fsplit, fjoin, feq_i, flt_i, flt_l, whole, sub, agg, stop, bin, size_word, fld, no_more, and_then, of_opd, first, blocks, exec, returns, enter, layout, layouts, uint_vals, uint_Tells, RattleType, owns, Ptr, in_a_block, hide, unhide, shr_vals, shr_Tells, ShrSlice, slice_ty, slice_val, elements_shared, types_at, heard, walk_of, El, times_below, uncapped, after, length-map, proved, leaves, type_size, slice_range, T, R, AreFilled, tells, spent, drops, drops_go}
use Rattle.starlark_columns.proofs.RowValues.{word, word_good, address_told, AddressOf, RowOf, within_lent, run_seen, range_long}
use Rattle.starlark_columns.specs.contracts.row.Row.slice as contract
use Rattle.starlark_columns.proofs.row.Row.slice as routine

pub slice_spec : {M : Type 1} → routine.Statement.statement M
slice_spec 𝓤 𝓛 𝓜 𝓡 wired X L =
    let H = 𝓛.H in let 𝓣 = tables 𝓤 H 𝓜 𝓡 𝓡.env in let En = contract.ended X in let E : El = record { row = X; laws = L } in let inst = layouts (a_type ∷ []) (X, tt) in let fn = inst_fn inst routine.Code.function in
    let c = contract.clauses X 𝓛 𝓜.mem 𝓡.returns in let At = AddressOf (R E) in let Own = RowOf (R E) in let hs = drops En in
    proved 𝓛 En hs c 𝓜 𝓡 (drops_go 𝓛 En (λ κs x f. refl, (λ κs x f. refl, (λ κs x f. refl, (λ κs x f. refl, tt))))) (contract.Key.name inst) fn (routine.Code.unfolded 𝓤 H 𝓜 𝓡 wired (X, tt))
    (λ κs. (shr_vals, ((λ x. word x.at ∷ []), (uint_vals w64, (uint_vals w64, tt))))) (λ κs. (shr_Tells (named 0) κs.0 Own, (address_told (R E), (uint_Tells w64, (uint_Tells w64, tt))))) (λ κs qs bounds a gh are.
    let κ = κs.0 in let q = qs.0 in let ι = κs.1.0 in let w = qs.1.0 in let self = a.0 in let rb = self.ref_ptr.0 in let ro = self.ref_ptr.1 in let h = self.now in let p = a.1.0.at in let from = a.1.1.0 in let to = a.1.1.1.0 in
    let cs : List (Option X.Denot) = h.cells in let s : ℕ = type_size (R E) in let Out : RattleType = ShrSlice (named 0) κ (R E) in
    let y : (walk_of 𝓛 En hs c).Ghost = ((κs, qs, bounds, a, (vptr rb ro ∷ [], (word p ∷ [], (vint w64 from ∷ [], (vint w64 to ∷ [], tt))))), gh) in let Post : Val → SProp 𝓤 = (walk_of 𝓛 En hs c).post y in
    qed 𝓛 (((‵ (flft κ q) ⊛ ‵ (flft ι w) ⊛ ‵ ftrue) ⊛ ‵ (owns (types_at En.signature.params κs) a y.0.4)) ∷ raw (fact 𝓤 (ι ⊑ X.lives)) ∷ raw (fact 𝓤 (p ≡ h.at)) ∷ raw (fact 𝓤 (AreFilled cs from to)) ∷ []) ∵
    move ! (2 ∷ 3 ∷ []) $ heard ! _ (λ its. heard ! _ (λ full. split ! $ move ! (1 ∷ []) $ fsplit ! $ fsplit ! $ keep ! (1 ∷ 3 ∷ []) $
    let ordered = full.0 in let within = full.1 in let xs : List X.Denot = full.2.0 in let filled = full.2.1 in
    let long : length xs ≡ to - from = omega (arith, ap length filled, length-map xs Some, range_long cs from to ordered within) in
    enter ! _ _ _ _ _ $ alloc_all ! (λ l. pass_all ! refl ((tt, tt), (word_good p, ((tt, record { fits = are.1.1.0.1 }), ((tt, record { fits = are.1.1.1.0.1 }), tt)))) $ let Ev = env fn.locals l in
    unhide ! $ fsplit ! $ move ! (1 ∷ []) $ fsplit ! $ flt_l ! (λ small. in_a_block ! h.at (λ z. within_lent (R E) z cs κ) (id⊢ 𝓤 (never 𝓤)) (λ b o at.
    let far : from * s < 2 ^ 64 = omega (arith, times_below from (length cs) s (2 ^ 63) (omega (arith, ordered, within)) small) in let here : ℕ × ℕ = (b, from * s + o) in
    let count : to - from < 2 ^ 64 = omega (arith, are.1.1.1.0.1) in let good : T (has_ty (slice_ty ty_ptr) (slice_val here (to - from))) × WT (slice_val here (to - from)) = (tt, (tt, (record { fits = count }, tt))) in
    take_at ! 2 $ rewrite ! 0 (λ (z : Ptr). ‵ (fat full_share (layout At) (l 2) 0 (word z))) (its ∙ at) refl $ give_at ! 2 $ first ! $ blocks ! $
    sets ! (is ! (bin ! (get ! refl) (size_word !) (record { fits = subst (λ (k : ℕ). k < 2 ^ 64) (sym (uncapped from s far)) far })) (ap (vint w64) (uncapped from s far))) refl (tt, record { fits = far }) $
    sets ! (bin ! (get_in ! (fld ! refl (stop !)) (sub ! 0 refl (whole !))) (get ! refl) tt) refl (tt, tt) $ sets ! (bin ! (get ! refl) (get ! refl) ordered) refl (tt, record { fits = count }) $
    use1 𝓛 (‵ (elements_shared (R E) xs b here.1 κ)) (run_seen E b 𝓛 κ cs from to o xs ordered within filled) $ hide ! $
    sets_last ! (agg ! (and_then ! (get ! refl) (and_then ! (get ! refl) (no_more !)))) refl good $ exec ! 𝓣.C 𝓣.Λ Ev (after 1 fn.body) (at_ret Ev Post) $ sets ! (of_opd ! (get ! refl)) refl good $
    let v : Val = slice_val here (to - from) in
    flt_i ! (length xs * s) (2 ^ 63) (times_below (length xs) (length cs) s (2 ^ 63) (omega (arith, long, within)) small) $ flt_i ! (length xs) (2 ^ 64) (omega (arith, long, count)) $ fjoin ! $
    feq_i ! (List Val) (v ∷ []) (slice_val here (length xs) ∷ []) (ap (λ k. slice_val here k ∷ []) (sym long)) $ fjoin ! $ fjoin ! $ returns ! (look_at ! 0 refl) $ free_all ! refl $
    let r : Out.Denot = record { ref_ptr = here; now = xs } in tells ! (slice_range cs from to ≡ map Some xs) filled $ spent ! 4 $
    keep ! (4 ∷ 0 ∷ 2 ∷ 1 ∷ []) $ by ! (leaves 𝓛 En hs c y v r (tt, (tt, (tt, (tt, tt)))) (tt, (tt, (tt, (tt, tt)))))))))))
