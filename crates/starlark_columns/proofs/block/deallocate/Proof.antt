-- `deallocate` joins the empty cells to the memory of the block, and gives it back with the right to do so. Assumes
-- `Logic`.
use Rattle.starlark_columns.proofs.LogicNames.{◌≡◌, ℕ, ◌*◌, ◌<◌, ◌^◌, List, [], ◌∷◌, refl, sym, ap, subst, ◌∙◌, arith, w64, froom, flft, Incl-trans, SProp, ◌⊑◌, fact, tables, inst_fn, Ty, named, ty_unit, ty_array, Val, vunit, vint, vptr, has_ty, WT, capped_fits, align, capped, alloc_all, pass_all, free_all, look_at, get, get_in, is, sets, lands_last, env, ‵, raw, ◌⊛◌, given, some, later, at_ret, ◌$◌, ◌∵◌, !, qed, by, move, keep, use1, group, split, join, pick, learn, rewrite, fsplit, feq_i, await, whole, sub, stop, fld, unit_lit, size_word, align_word, no_more, and_then, of_opd, bin, first, blocks, exec, returns, enter, param, uint_vals, uint_Tells, RattleType, owns, Ptr, block_ptr, ptr_val, shr_vals, shr_Tells, types_at, heard, nothing, calls_at_last, framed, walk_of, Al, token, Gives, at_gives, Gives-goes, Gives-Gives, El, elτ, after, uncapped, block_ty, block_size, block_align, args, proved, leaves, type_size, T, R, empties, spent, drops, drops_go, toks}
use Rattle.starlark_columns.proofs.RowValues.{word, word_good, mark, address_told, mark_told, AddressOf, RowOf, ClaimOf, claim_owned, some_weight, RoomAt, room_of_row}
use Rattle.starlark_columns.specs.contracts.block.deallocate as contract
use Rattle.starlark_columns.proofs.block.deallocate as routine

pub deallocate_spec : {M : Type 1} → routine.Statement.statement M
deallocate_spec 𝓤 𝓛 𝓜 𝓡 wired X U L LU g d dd met _ =
    let H = 𝓛.H in let 𝓣 = tables 𝓤 H 𝓜 𝓡 𝓡.env in let En = contract.ended X U g d dd in
    let E : El = record { row = X; laws = L } in let Z : Al = record { row = U; laws = LU; g = g; d = d; drops = dd } in let fn = inst_fn (args E Z) routine.Code.function in
    let hs = drops En in let W : RattleType = param 1 U in let c = contract.clauses X U g d dd 𝓛 𝓜.mem 𝓡.returns in let At = AddressOf (R E) in let Own = RowOf (R E) in let Right = ClaimOf (R E) W g in
    proved 𝓛 En hs c 𝓜 𝓡 (drops_go 𝓛 En (λ κs x f. refl, (λ κs x f. refl, (λ κs x f. refl, (λ κs x f. refl, (λ κs x f. refl, tt)))))) (contract.Key.name (args E Z)) fn (routine.Code.unfolded 𝓤 H 𝓜 𝓡 wired (X, (U, tt)) d dd)
    (λ κs. (shr_vals, ((λ x. word x.at ∷ []), (uint_vals w64, ((λ _. mark ∷ []), ((λ _. mark ∷ []), tt))))))
    (λ κs. (shr_Tells (named 0) κs.0 W, (address_told (R E), (uint_Tells w64, ((λ x vs is. mark_told (R E) vs is.0), ((λ x vs is. mark_told (R E) vs is.0), tt)))))) (λ κs qs bounds a gh are.
    let κ = κs.0 in let q = qs.0 in let hp : ℕ × ℕ = a.0.ref_ptr in let h : U.Denot = a.0.now in let p : Ptr = a.1.0.at in let n : ℕ = a.1.1.0 in let own : Own.Denot = a.1.1.1.0 in let right : Right.Denot = a.1.1.1.1.0 in
    let s : ℕ = type_size (R E) in let al : ℕ = capped (align (elτ E)) in let τ : Ty = block_ty E n in
    let y : (walk_of 𝓛 En hs c).Ghost = ((κs, qs, bounds, a, (vptr hp.0 hp.1 ∷ [], (word p ∷ [], (vint w64 n ∷ [], (mark ∷ [], (mark ∷ [], tt)))))), gh) in let Post : Val → SProp 𝓤 = (walk_of 𝓛 En hs c).post y in
    qed 𝓛 (((‵ (flft κ q) ⊛ raw (toks 𝓛 2 κs.1 qs.1)) ⊛ ‵ (owns (types_at En.signature.params κs) a y.0.4)) ∷ raw (fact 𝓤 (κs.1.0 ⊑ X.lives)) ∷ raw (fact 𝓤 (κs.1.1.0 ⊑ U.lives)) ∷ raw (fact 𝓤 ((own.at ≡ p) × (own.cells ≡ empties n)))
    ∷ raw (fact 𝓤 ((right.at ≡ p) × (right.count ≡ n) × (right.alloc ≡ h))) ∷ raw (fact 𝓤 (0 < n * s)) ∷ []) ∵
    keep ! (2 ∷ 3 ∷ 4 ∷ 5 ∷ 0 ∷ []) $ heard ! _ (λ within. heard ! _ (λ bare. heard ! _ (λ its. heard ! _ (λ much. split ! $ split ! $ move ! (2 ∷ []) $
    fsplit ! $ move ! (1 ∷ []) $ fsplit ! $ move ! (1 ∷ []) $ fsplit ! $ move ! (1 ∷ []) $ fsplit ! $ move ! (1 ∷ []) $ fsplit ! $ fsplit ! $ keep ! (6 ∷ 1 ∷ 3 ∷ 7 ∷ 8 ∷ []) $ fsplit ! $ keep ! (3 ∷ 2 ∷ 1 ∷ 4 ∷ 5 ∷ []) $
    -- [the row; the right; the handle; its token; the other tokens]
    use1 𝓛 (some (RoomAt E 𝓛 n p)) (room_of_row E 𝓛 n p own bare.0 bare.1) $ pick ! (λ m. learn ! (λ found. let b = m.0 in let o = m.1 in let at = found.0 in let small = found.1 in let bytes : n * s < 2 ^ 64 = omega arith in
    rewrite ! 1 (λ (z : U.Denot × Ptr × ℕ). ‵ (claim_owned (R E) (token Z z.0) z.1 z.2)) {x = (h, block_ptr b o, n)} {y = (right.alloc, right.at, right.count)} (λ i. (its.2 i, (its.0 ∙ at) i, its.1 i)) refl $
    rewrite ! 1 ‵ (some_weight (n * s) (token Z h τ (block_ptr b o)) much) refl $ use1 𝓛 (‵ (froom τ b o)) (𝓛.laws.room-raw (ty_array (elτ E) n) b o) $
    enter ! _ _ _ _ _ $ alloc_all ! (λ l. pass_all ! refl ((tt, tt), (word_good p, ((tt, record { fits = are.1.1.0.1 }), ((tt, (tt, tt)), ((tt, (tt, tt)), tt))))) $ let Ev = env fn.locals l in
    let t : (Gives Z 𝓛 𝓜.mem 𝓡.returns).Ghost = at_gives Z 𝓛 𝓜.mem 𝓡.returns κ q hp h b o (n * s) al τ in
    first ! $ blocks ! $ sets ! (is ! (of_opd ! (get_in ! (fld ! refl (stop !)) (sub ! 0 refl (whole !)))) (ap ptr_val at)) refl (tt, tt) $
    sets ! (is ! (bin ! (get ! refl) (size_word !) (record { fits = subst (λ (k : ℕ). k < 2 ^ 64) (sym (uncapped n s bytes)) bytes })) (ap (vint w64) (uncapped n s bytes))) refl (tt, record { fits = bytes }) $
    group ! 4 $ use1 𝓛 (raw ((Gives Z 𝓛 𝓜.mem 𝓡.returns).pre t))
    (Gives-goes Z 𝓛 𝓜.mem 𝓡.returns κ q hp h (Incl-trans bounds.0 within) b o (n * s) al τ (block_size E n bytes) (block_align E n) bytes (capped_fits (align (elτ E)))) $
    calls_at_last ! (framed 𝓤 H 𝓜 𝓣) (Gives Z 𝓛 𝓜.mem 𝓡.returns) (met.deallocate dd) t (and_then ! (get ! refl) (and_then ! (get ! refl) (and_then ! (get ! refl) (and_then ! (align_word !) (no_more !))))) (λ v.
    use1 𝓛 (later (given (v ≡ vunit) (‵ (flft κ q)))) (Gives-Gives Z 𝓛 𝓜.mem 𝓡.returns κ q hp h b o (n * s) al τ v) $ await ! tt $ learn ! (λ e.
    lands_last ! refl (subst (λ (u : Val). T (has_ty ty_unit u) × WT u) (sym e) (tt, tt)) $ exec ! 𝓣.C 𝓣.Λ Ev (after 1 fn.body) (at_ret Ev Post) $
    sets ! (of_opd ! (unit_lit !)) refl (tt, tt) $ returns ! (look_at ! 0 refl) $ free_all ! refl $
    join ! $ nothing ! $ feq_i ! (List Val) (vunit ∷ []) (vunit ∷ []) refl $ spent ! 5 $ keep ! (3 ∷ 0 ∷ 1 ∷ 2 ∷ []) $ by ! (leaves 𝓛 En hs c y vunit tt (tt, (tt, (tt, (tt, (tt, tt))))) (tt, (tt, (tt, (tt, (tt, tt))))))))))))))))
