-- `deallocate_pair` joins the empty cells of both rows to the memory of the block, and gives it back with the right to
-- do so. Assumes `Logic`.
use Rattle.starlark_columns.proofs.LogicNames.{◌≡◌, ℕ, ◌+◌, ◌*◌, ◌<◌, List, [], ◌∷◌, refl, sym, ap, subst, ◌∙◌, w64, Fml, fsep, froom, flft, Incl-trans, SProp, apply∗, ◌⊑◌, fact, tables, inst_fn, bare, Ty, named, ty_unit, ty_array, a_type, dcons, dnil, Val, vunit, vint, vptr, has_ty, WT, capped, size-raw, align-raw, alloc_all, pass_all, free_all, look_at, get, get_in, is, sets, lands_last, env, sem, ‵, raw, ◌⊛◌, given, some, later, at_ret, ◌$◌, ◌∵◌, !, qed, by, move, keep, use1, use2, group, split, join, pick, learn, rewrite, fsplit, fjoin, feq_i, await, whole, sub, stop, fld, unit_lit, no_more, and_then, of_opd, first, blocks, exec, returns, enter, param, bounded, uint_vals, uint_Tells, RattleType, owns, Ptr, block_ptr, ptr_val, shr_vals, shr_Tells, types_at, heard, nothing, calls_at_last, framed, walk_of, Al, token, Gives, at_gives, Gives-goes, Gives-Gives, El, elτ, after, HasLayout, proved, leaves, type_size, T, R, empties, spent, drops, drops_go, toks}
use Rattle.starlark_columns.proofs.RowValues.{word, word_good, mark, address_told, mark_told, AddressOf, RowOf, PairClaimOf, some_weight, two_arrays, pair_ty, rooms_rejoin, RoomAt, room_of_row}
use Rattle.starlark_columns.specs.contracts.block.deallocate_pair as contract
use Rattle.starlark_columns.proofs.block.deallocate_pair as routine

pub deallocate_pair_spec : {M : Type 1} → routine.Statement.statement M
deallocate_pair_spec 𝓤 𝓛 𝓜 𝓡 wired X Y U L LY LU g d dd met _ =
    let H = 𝓛.H in let 𝓣 = tables 𝓤 H 𝓜 𝓡 𝓡.env in let En = contract.ended X Y U g d dd in
    let E : El = record { row = X; laws = L } in let F : El = record { row = Y; laws = LY } in let Z : Al = record { row = U; laws = LU; g = g; d = d; drops = dd } in
    let inst = bounded (a_type ∷ a_type ∷ a_type ∷ []) (X, (Y, (U, tt))) (dcons d (dcons dd dnil)) in let fn = inst_fn inst routine.Code.function in
    let S : RattleType = param 1 Y in let W : RattleType = param 2 U in let c = contract.clauses X Y U g d dd 𝓛 𝓜.mem 𝓡.returns in
    let At = AddressOf (R E) in let Own = RowOf (R E) in let Bwn = RowOf S in let Right = PairClaimOf (R E) S W g in let hs = drops En in
    proved 𝓛 En hs c 𝓜 𝓡 (drops_go 𝓛 En (λ κs x f. refl, (λ κs x f. refl, (λ κs x f. refl, (λ κs x f. refl, (λ κs x f. refl, (λ κs x f. refl, (λ κs x f. refl, tt)))))))) (contract.Key.name inst) fn (routine.Code.unfolded 𝓤 H 𝓜 𝓡 wired (X, (Y, (U, tt))) d dd)
    (λ κs. (shr_vals, ((λ x. word x.at ∷ []), (uint_vals w64, (uint_vals w64, ((λ _. mark ∷ []), ((λ _. mark ∷ []), ((λ _. mark ∷ []), tt))))))))
    (λ κs. (shr_Tells (named 0) κs.0 W, (address_told (R E), (uint_Tells w64, (uint_Tells w64, ((λ x vs is. mark_told (R E) vs is.0), ((λ x vs is. mark_told S vs is.0), ((λ x vs is. mark_told S vs is.0), tt)))))))) (λ κs qs bounds a gh are.
    let κ = κs.0 in let q = qs.0 in let hp : ℕ × ℕ = a.0.ref_ptr in let h : U.Denot = a.0.now in let p : Ptr = a.1.0.at in let z : ℕ = a.1.1.0 in let al : ℕ = a.1.1.1.0 in
    let own : Own.Denot = a.1.1.1.1.0 in let bwn : Bwn.Denot = a.1.1.1.1.1.0 in let right : Right.Denot = a.1.1.1.1.1.1.0 in
    let n : ℕ = right.count in let s : ℕ = type_size (R E) in let t : ℕ = type_size S in let ω : Ty = two_arrays (elτ E) (elτ F) n in let τ : Ty = bare ω in
    let y : (walk_of 𝓛 En hs c).Ghost = ((κs, qs, bounds, a, (vptr hp.0 hp.1 ∷ [], (word p ∷ [], (vint w64 z ∷ [], (vint w64 al ∷ [], (mark ∷ [], (mark ∷ [], (mark ∷ [], tt)))))))), gh) in let Post : Val → SProp 𝓤 = (walk_of 𝓛 En hs c).post y in
    let Bare : Type 0 = (own.at ≡ right.firsts) × (own.cells ≡ empties n) × (bwn.at ≡ right.seconds) × (bwn.cells ≡ empties n) in let Its : Type 0 = (p ≡ right.firsts) × (right.alloc ≡ h) in
    qed 𝓛 (((‵ (flft κ q) ⊛ raw (toks 𝓛 3 κs.1 qs.1)) ⊛ ‵ (owns (types_at En.signature.params κs) a y.0.4)) ∷ raw (fact 𝓤 (κs.1.0 ⊑ X.lives)) ∷ raw (fact 𝓤 (κs.1.1.0 ⊑ Y.lives)) ∷ raw (fact 𝓤 (κs.1.1.1.0 ⊑ U.lives))
    ∷ raw (fact 𝓤 (HasLayout (pair_ty (R E) S n) z al)) ∷ raw (fact 𝓤 (0 < n * (s + t))) ∷ raw (fact 𝓤 Bare) ∷ raw (fact 𝓤 Its) ∷ []) ∵
    keep ! (3 ∷ 4 ∷ 5 ∷ 6 ∷ 7 ∷ 0 ∷ []) $ heard ! (κs.1.1.1.0 ⊑ U.lives) (λ within. heard ! (HasLayout (pair_ty (R E) S n) z al) (λ laid. heard ! (0 < n * (s + t)) (λ much. heard ! Bare (λ empty. heard ! Its (λ its. split ! $ split ! $ move ! (2 ∷ []) $
    fsplit ! $ move ! (1 ∷ []) $ fsplit ! $ move ! (1 ∷ []) $ fsplit ! $ move ! (1 ∷ []) $ fsplit ! $ move ! (1 ∷ []) $ fsplit ! $ move ! (1 ∷ []) $ fsplit ! $ move ! (1 ∷ []) $ fsplit ! $ fsplit ! $
    keep ! (8 ∷ 1 ∷ 3 ∷ 4 ∷ 9 ∷ 10 ∷ []) $ fsplit ! $ keep ! (2 ∷ 3 ∷ 4 ∷ 1 ∷ 5 ∷ 6 ∷ []) $ fsplit ! $ keep ! (3 ∷ 2 ∷ 1 ∷ 4 ∷ 5 ∷ 6 ∷ []) $
    -- [the first row; the second; the right; the handle; its token; the other tokens]
    use1 𝓛 (some (RoomAt E 𝓛 n right.firsts)) (room_of_row E 𝓛 n right.firsts own empty.0 empty.1) $ pick ! (λ m. learn ! (λ found. let b = m.0 in let o = m.1 in let at = found.0 in
    use1 𝓛 (‵ (froom (bare (ty_array (elτ E) n)) b o)) (𝓛.laws.room-raw (ty_array (elτ E) n) b o) $ move ! (1 ∷ []) $
    use1 𝓛 (some (RoomAt F 𝓛 n right.seconds)) (room_of_row F 𝓛 n right.seconds bwn empty.2 empty.3) $ pick ! (λ m'. learn ! (λ found'. let b' = m'.0 in let o' = m'.1 in let at' = found'.0 in
    use1 𝓛 (‵ (froom (bare (ty_array (elτ F) n)) b' o')) (𝓛.laws.room-raw (ty_array (elτ F) n) b' o') $
    let Owed : U.Denot × Ptr × Ptr → Fml = λ z. fsep (token Z z.0 τ z.1) (rooms_rejoin (elτ E) (elτ F) z.1 z.2 n) in
    rewrite ! 2 ‵ (some_weight (n * (s + t)) (Owed (right.alloc, right.firsts, right.seconds)) much) refl $
    rewrite ! 2 (λ (z : U.Denot × Ptr × Ptr). ‵ (Owed z)) {x = (h, block_ptr b o, block_ptr b' o')} {y = (right.alloc, right.firsts, right.seconds)} (λ i. (its.1 i, at i, at' i)) refl $
    move ! (2 ∷ []) $ fsplit ! $ move ! (3 ∷ 2 ∷ 1 ∷ 0 ∷ []) $ fjoin ! $
    use2 𝓛 (‵ (froom τ b o)) (apply∗ 𝓤 (sem 𝓛 (fsep (froom (bare (ty_array (elτ E) n)) b o) (froom (bare (ty_array (elτ F) n)) b' o'))) (H.room τ b o)) $
    enter ! _ _ _ _ _ $ alloc_all ! (λ l. pass_all ! refl ((tt, tt), (word_good p, ((tt, record { fits = are.1.1.0.1 }), ((tt, record { fits = are.1.1.1.0.1 }), ((tt, (tt, tt)), ((tt, (tt, tt)), ((tt, (tt, tt)), tt))))))) $ let Ev = env fn.locals l in
    let t : (Gives Z 𝓛 𝓜.mem 𝓡.returns).Ghost = at_gives Z 𝓛 𝓜.mem 𝓡.returns κ q hp h b o z al τ in
    first ! $ blocks ! $ sets ! (is ! (of_opd ! (get_in ! (fld ! refl (stop !)) (sub ! 0 refl (whole !)))) (ap ptr_val (its.0 ∙ at))) refl (tt, tt) $
    group ! 4 $ use1 𝓛 (raw ((Gives Z 𝓛 𝓜.mem 𝓡.returns).pre t))
    (Gives-goes Z 𝓛 𝓜.mem 𝓡.returns κ q hp h (Incl-trans bounds.0 within) b o z al τ (ap capped (size-raw ω) ∙ laid.0) (ap capped (align-raw ω) ∙ laid.1) are.1.1.0.1 are.1.1.1.0.1) $
    calls_at_last ! (framed 𝓤 H 𝓜 𝓣) (Gives Z 𝓛 𝓜.mem 𝓡.returns) (met.deallocate dd) t (and_then ! (get ! refl) (and_then ! (get ! refl) (and_then ! (get ! refl) (and_then ! (get ! refl) (no_more !))))) (λ v.
    use1 𝓛 (later (given (v ≡ vunit) (‵ (flft κ q)))) (Gives-Gives Z 𝓛 𝓜.mem 𝓡.returns κ q hp h b o z al τ v) $ await ! tt $ learn ! (λ e.
    lands_last ! refl (subst (λ (u : Val). T (has_ty ty_unit u) × WT u) (sym e) (tt, tt)) $ exec ! 𝓣.C 𝓣.Λ Ev (after 1 fn.body) (at_ret Ev Post) $
    sets ! (of_opd ! (unit_lit !)) refl (tt, tt) $ returns ! (look_at ! 0 refl) $ free_all ! refl $
    join ! $ nothing ! $ feq_i ! (List Val) (vunit ∷ []) (vunit ∷ []) refl $ spent ! 7 $ keep ! (3 ∷ 0 ∷ 1 ∷ 2 ∷ []) $ by ! (leaves 𝓛 En hs c y vunit tt (tt, (tt, (tt, (tt, (tt, (tt, (tt, tt))))))) (tt, (tt, (tt, (tt, (tt, (tt, (tt, tt)))))))))))))))))))))
