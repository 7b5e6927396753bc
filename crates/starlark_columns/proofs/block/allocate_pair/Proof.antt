-- `allocate_pair` allocates a block of two arrays, and splits it into the cells of both and the right to deallocate it.
-- Assumes `Logic`.
use Rattle.starlark_columns.proofs.LogicNames.{◌≡◌, ℕ, ◌+◌, ◌*◌, ◌<◌, ◌^◌, true, false, [], ◌∷◌, refl, sym, ap, ◌∙◌, lit<, w64, IfOk, Ok, Err, fsep, froom, flft, Incl-trans, SProp, ◌⊑◌, fact, tables, inst_fn, bare, Ty, named, ty_array, a_type, dcons, dnil, Val, vint, vptr, vstruct, vcons, vnil, WT, capped, size-raw, align-raw, Wp, after_seq, at_return, alloc_all, pass_all, free_all, look_at, get, get_in, get_tag, sets, sets_last, lands_as, env, After, any_q, ‵, raw, ◌⊛◌, later, at_ret, ◌$◌, ◌∵◌, !, qed, by, move, keep, use0, use1, use2, split, split3, join, rewrite, fsplit, fjoin, feq_i, await, live, vrt, in_variant, whole, agg, stop, fld, lit, no_more, and_then, of_opd, first, switches_on, exec, returns, enter, param, bounded, uint_vals, uint_Tells, RattleType, owns, Ptr, block_ptr, shr_vals, shr_Tells, types_at, heard, nothing, Tuple, tuple_type, calls_at, framed, walk_of, Al, token, Answer-typed, Takes, at_takes, Answered, Takes-goes, Takes-gives, answers, El, elτ, HasLayout, after, head, arm_body, proved, leaves, type_size, ok_of, R, empties, tells, spent, drops, drops_go, toks}
use Rattle.core.specs.contracts as core
use Rattle.starlark_columns.proofs.RowValues.{word, mark, marked, as_struct, declared, address_made, AddressOf, RowOf, PairClaimOf, no_block, refused, cut_in_two, some_weight, both_within, two_arrays, pair_ty, second_offset, skipped, rooms_rejoin, here, row_of_room}
use Rattle.starlark_columns.specs.contracts.block.allocate_pair as contract
use Rattle.starlark_columns.proofs.block.allocate_pair as routine

pub allocate_pair_spec : {M : Type 1} → routine.Statement.statement M
allocate_pair_spec 𝓤 𝓛 𝓜 𝓡 wired X Y U L LY LU g d dd met _ =
    let H = 𝓛.H in let 𝓣 = tables 𝓤 H 𝓜 𝓡 𝓡.env in let En = contract.ended X Y U g d dd in
    let E : El = record { row = X; laws = L } in let F : El = record { row = Y; laws = LY } in let Z : Al = record { row = U; laws = LU; g = g; d = d; drops = dd } in
    let inst = bounded (a_type ∷ a_type ∷ a_type ∷ []) (X, (Y, (U, tt))) (dcons d (dcons dd dnil)) in let fn = inst_fn inst routine.Code.function in
    let S : RattleType = param 1 Y in let W : RattleType = param 2 U in let hs = drops En in let c = contract.clauses X Y U g d dd 𝓛 𝓜.mem 𝓡.returns in
    let At = AddressOf (R E) in let Own = RowOf (R E) in let Bwn = RowOf S in let Right = PairClaimOf (R E) S W g in
    let Four : RattleType = Tuple (At ∷ Own ∷ Bwn ∷ Right ∷ []) in let Out : RattleType = core.result.Result.the_row Four core.alloc.AllocError.the_row in
    proved 𝓛 En hs c 𝓜 𝓡 (drops_go 𝓛 En (λ κs x f. refl, (λ κs x f. refl, (λ κs x f. refl, (λ κs x f. refl, tt))))) (contract.Key.name inst) fn (routine.Code.unfolded 𝓤 H 𝓜 𝓡 wired (X, (Y, (U, tt))) d dd)
    (λ κs. (shr_vals, (uint_vals w64, (uint_vals w64, (uint_vals w64, tt))))) (λ κs. (shr_Tells (named 0) κs.0 W, (uint_Tells w64, (uint_Tells w64, (uint_Tells w64, tt))))) (λ κs qs bounds a gh are.
    let κ = κs.0 in let q = qs.0 in let hp : ℕ × ℕ = a.0.ref_ptr in let h : U.Denot = a.0.now in let n : ℕ = a.1.0 in let z : ℕ = a.1.1.0 in let al : ℕ = a.1.1.1.0 in let far : ℕ = skipped (R E) S n in
    let s : ℕ = type_size (R E) in let t : ℕ = type_size S in let ω : Ty = two_arrays (elτ E) (elτ F) n in let τ : Ty = bare ω in
    let y : (walk_of 𝓛 En hs c).Ghost = ((κs, qs, bounds, a, (vptr hp.0 hp.1 ∷ [], (vint w64 n ∷ [], (vint w64 z ∷ [], (vint w64 al ∷ [], tt))))), gh) in let Post : Val → SProp 𝓤 = (walk_of 𝓛 En hs c).post y in
    let Told : Out.Denot → Type 0 = λ r. IfOk r (λ t. (t.1.at ≡ t.0.at) × (t.1.cells ≡ empties n) × (t.2.cells ≡ empties n) × (t.3.firsts ≡ t.0.at) × (t.3.seconds ≡ t.2.at) × (t.3.count ≡ n) × (t.3.alloc ≡ h)) in
    qed 𝓛 (((‵ (flft κ q) ⊛ raw (toks 𝓛 3 κs.1 qs.1)) ⊛ ‵ (owns (types_at En.signature.params κs) a y.0.4)) ∷ raw (fact 𝓤 (κs.1.0 ⊑ X.lives)) ∷ raw (fact 𝓤 (κs.1.1.0 ⊑ Y.lives)) ∷ raw (fact 𝓤 (κs.1.1.1.0 ⊑ U.lives))
    ∷ raw (fact 𝓤 (HasLayout (pair_ty (R E) S n) z al)) ∷ raw (fact 𝓤 (skipped (R E) S n ≡ second_offset (R E) S n)) ∷ raw (fact 𝓤 (z < 2 ^ 63)) ∷ raw (fact 𝓤 (0 < n * (s + t))) ∷ []) ∵
    keep ! (3 ∷ 4 ∷ 5 ∷ 6 ∷ 7 ∷ 0 ∷ []) $ heard ! (κs.1.1.1.0 ⊑ U.lives) (λ within. heard ! (HasLayout (pair_ty (R E) S n) z al) (λ laid. heard ! (skipped (R E) S n ≡ second_offset (R E) S n) (λ at. heard ! (z < 2 ^ 63) (λ fits. heard ! (0 < n * (s + t)) (λ some.
    split ! $ split ! $ move ! (2 ∷ []) $ fsplit ! $ fsplit ! $ keep ! (1 ∷ 3 ∷ 4 ∷ []) $
    let less = both_within (elτ E) (elτ F) n z (laid.0) fits in
    -- [the handle; its token; the other tokens]
    enter ! _ _ _ _ _ $ alloc_all ! (λ l. pass_all ! refl ((tt, tt), ((tt, record { fits = are.1.0.1 }), ((tt, record { fits = are.1.1.0.1 }), ((tt, record { fits = are.1.1.1.0.1 }), tt)))) $ let Ev = env fn.locals l in
    let both = head (after 1 fn.body) in
    let Then : After 𝓤 H = any_q (after_seq 𝓤 H (Wp 𝓤 H 𝓣.C 𝓣.Λ Ev (after 2 fn.body) (at_return 𝓤 H Ev Post)) (at_return 𝓤 H Ev Post)) in
    let tk : (Takes Z 𝓛 𝓜.mem 𝓡.returns).Ghost = at_takes Z 𝓛 𝓜.mem 𝓡.returns κ q hp h z al τ in
    use2 𝓛 (raw ((Takes Z 𝓛 𝓜.mem 𝓡.returns).pre tk))
    (Takes-goes Z 𝓛 𝓜.mem 𝓡.returns κ q hp h (Incl-trans bounds.0 within) z al τ (ap capped (size-raw ω) ∙ laid.0) (ap capped (align-raw ω) ∙ laid.1) are.1.1.0.1 are.1.1.1.0.1) $
    calls_at ! (framed 𝓤 H 𝓜 𝓣) (Takes Z 𝓛 𝓜.mem 𝓡.returns) (met.allocate dd) tk (and_then ! (get ! refl) (and_then ! (get ! refl) (and_then ! (get ! refl) (no_more !)))) (λ v.
    use1 𝓛 (later (raw (Answered Z 𝓛 𝓜.mem 𝓡.returns h τ v) ⊛ ‵ (flft κ q))) (Takes-gives Z 𝓛 𝓜.mem 𝓡.returns κ q hp h z al τ v) $ await ! tt $ split ! $
    move ! (1 ∷ 2 ∷ []) $ join ! $ move ! (1 ∷ []) $ answers Z ! 𝓜.mem 𝓡.returns h τ v
    (λ b o e. let p : Ptr = block_ptr b o in let r : Ptr = block_ptr b (o + far) in let nought : WT mark = (tt, tt) in
    let x : Four.Denot = (record { at = p }, here E 𝓛 n b o, here F 𝓛 n b (o + far), record { mark = record {}; firsts = p; seconds = r; count = n; alloc = h }) in
    let u : Val = vstruct (vcons (word p) (vcons mark (vcons mark (vcons mark vnil)))) in let w : Val = live 0 (vcons u vnil) in
    let good : WT u = ((tt, tt), (nought, (nought, (nought, tt)))) in let all : WT w = (record { fits = lit< tt }, (good, tt)) in
    lands_as ! e refl (Answer-typed true b o) $ first ! $ switches_on ! (get_tag ! (vrt ! refl (fld ! refl (stop !))) (whole !)) $ exec ! 𝓣.C 𝓣.Λ Ev (arm_body 0 both) Then $
    sets ! (of_opd ! (get_in ! (vrt ! refl (fld ! refl (stop !))) (in_variant ! 0 0 refl refl (whole !)))) refl (tt, tt) $ sets ! (of_opd ! (get ! refl)) refl (tt, tt) $
    sets ! (agg ! (and_then ! (get ! refl) (no_more !))) refl (tt, (tt, tt)) $
    sets ! (agg ! (no_more !)) refl (tt, tt) $ sets ! (agg ! (and_then ! (get ! refl) (no_more !))) refl (tt, nought) $
    sets ! (agg ! (no_more !)) refl (tt, tt) $ sets ! (agg ! (and_then ! (get ! refl) (no_more !))) refl (tt, nought) $
    sets ! (agg ! (no_more !)) refl (tt, tt) $ sets ! (agg ! (and_then ! (get ! refl) (no_more !))) refl (tt, nought) $
    sets ! (agg ! (and_then ! (get ! refl) (and_then ! (get ! refl) (and_then ! (get ! refl) (and_then ! (get ! refl) (no_more !)))))) refl (tt, good) $
    sets_last ! (agg ! (and_then ! (lit ! tt) (and_then ! (get ! refl) (no_more !)))) refl (tt, all) $
    exec ! 𝓣.C 𝓣.Λ Ev (after 2 fn.body) (at_ret Ev Post) $ sets ! (of_opd ! (get ! refl)) refl (tt, all) $ returns ! (look_at ! 0 refl) $ free_all ! refl $
    -- [the room; the right; the tokens]
    use1 𝓛 (‵ (froom ω b o)) (𝓛.laws.raw-room ω b o) $
    use1 𝓛 (‵ (froom (ty_array (elτ E) n) b o) ⊛ ‵ (froom (ty_array (elτ F) n) b (o + far)) ⊛ ‵ (rooms_rejoin (elτ E) (elτ F) p r n)) (cut_in_two (elτ E) (elτ F) n 𝓛 b o far at) $ split3 ! $
    use1 𝓛 (‵ (Own.own_val x.1 (mark ∷ []))) (row_of_room E 𝓛 n b o less.0) $ move ! (1 ∷ []) $ use1 𝓛 (‵ (Bwn.own_val x.2 (mark ∷ []))) (row_of_room F 𝓛 n b (o + far) less.1) $ move ! (3 ∷ 2 ∷ []) $ fjoin ! $
    -- [the right with the way back; the second cells; the first; the tokens]
    rewrite ! 0 ‵ (sym (some_weight (n * (s + t)) (fsep (token Z h τ p) (rooms_rejoin (elτ E) (elτ F) p r n)) some)) refl $ feq_i ! (Ptr × Ptr) (p, r) (p, r) refl $ fjoin ! $ marked ! (R E) $
    use0 𝓛 (‵ (At.own_val x.0 (word p ∷ []))) (address_made (R E) 𝓛 p) $ nothing ! $ move ! (2 ∷ 0 ∷ []) $ fjoin ! $ move ! (2 ∷ 0 ∷ []) $ fjoin ! $ move ! (2 ∷ 0 ∷ []) $ fjoin ! $ move ! (1 ∷ 0 ∷ []) $ fjoin ! $
    use1 𝓛 (‵ (Four.own_val x (u ∷ []))) (as_struct 𝓛 (declared (tuple_type (At ∷ Own ∷ Bwn ∷ Right ∷ []))) (x.0, (x.1, (x.2, (x.3, tt)))) (word p ∷ [], (mark ∷ [], (mark ∷ [], (mark ∷ [], tt))))) $
    use1 𝓛 (‵ (Out.own_val (Ok x) (w ∷ []))) (ok_of 𝓛 Four core.alloc.AllocError.the_row x u) $
    tells ! (Told (Ok x)) (refl, refl, refl, refl, refl, refl, refl) $ spent ! 4 $ keep ! (3 ∷ 0 ∷ 2 ∷ 1 ∷ []) $ by ! (leaves 𝓛 En hs c y w (Ok x) (tt, (tt, (tt, (tt, tt)))) (tt, (tt, (tt, (tt, tt))))))
    (λ e. let none : WT no_block = (record { fits = lit< tt }, (tt, tt)) in
    lands_as ! e refl (Answer-typed false 0 0) $ first ! $ switches_on ! (get_tag ! (vrt ! refl (fld ! refl (stop !))) (whole !)) $ exec ! 𝓣.C 𝓣.Λ Ev (arm_body 1 both) Then $
    sets ! (of_opd ! (get_in ! (vrt ! refl (fld ! refl (stop !))) (in_variant ! 1 0 refl refl (whole !)))) refl (tt, tt) $
    sets_last ! (agg ! (and_then ! (lit ! tt) (and_then ! (get ! refl) (no_more !)))) refl (tt, none) $
    exec ! 𝓣.C 𝓣.Λ Ev (after 2 fn.body) (at_ret Ev Post) $ sets ! (of_opd ! (get ! refl)) refl (tt, none) $ returns ! (look_at ! 0 refl) $ free_all ! refl $
    use0 𝓛 (‵ (Out.own_val (Err (record {})) (no_block ∷ []))) (refused 𝓛 Four) $
    tells ! (Told (Err (record {}))) tt $ spent ! 4 $ keep ! (3 ∷ 0 ∷ 2 ∷ 1 ∷ []) $ by ! (leaves 𝓛 En hs c y no_block (Err (record {})) (tt, (tt, (tt, (tt, tt)))) (tt, (tt, (tt, (tt, tt))))))))))))))
