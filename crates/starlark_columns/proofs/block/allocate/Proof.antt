-- `allocate` allocates the block of an array, and splits it into empty cells and the right to deallocate it. Assumes
-- `Logic`.
use Rattle.starlark_columns.proofs.LogicNames.{◌≡◌, ℕ, ◌*◌, ◌<◌, ◌^◌, true, false, [], ◌∷◌, refl, sym, ap, subst, arith, lit<, w64, IfOk, Ok, Err, froom, flft, Incl-trans, SProp, ◌⊑◌, fact, tables, inst_fn, Ty, named, ty_array, Val, vint, vptr, vstruct, vcons, vnil, WT, capped_fits, align, capped, Wp, after_seq, at_return, alloc_all, pass_all, free_all, look_at, get, get_in, get_tag, is, sets, sets_last, lands_as, env, After, any_q, ‵, raw, ◌⊛◌, later, at_ret, ◌$◌, ◌∵◌, !, qed, by, move, keep, use0, use1, use2, split, join, rewrite, fsplit, fjoin, await, live, vrt, in_variant, whole, agg, stop, fld, lit, size_word, align_word, no_more, and_then, of_opd, bin, first, switches_on, exec, returns, enter, param, uint_vals, uint_Tells, RattleType, owns, Ptr, block_ptr, shr_vals, shr_Tells, types_at, heard, nothing, Tuple, calls_at, framed, Tuple, tuple_type, walk_of, Al, token, Answer-typed, Takes, at_takes, Answered, Takes-goes, Takes-gives, answers, El, elτ, after, head, arm_body, uncapped, block_ty, block_size, block_align, args, proved, leaves, type_size, FitsInBlock, ok_of, R, empties, tells, spent, drops, drops_go, InBlock, toks}
use Rattle.core.specs.contracts as core
use Rattle.starlark_columns.proofs.RowValues.{word, mark, marked, address_made, AddressOf, RowOf, ClaimOf, no_block, refused, some_weight, as_struct, declared, here, row_of_room}
use Rattle.starlark_columns.specs.contracts.block.allocate as contract
use Rattle.starlark_columns.proofs.block.allocate as routine

pub allocate_spec : {M : Type 1} → routine.Statement.statement M
allocate_spec 𝓤 𝓛 𝓜 𝓡 wired X U L LU g d dd met _ =
    let H = 𝓛.H in let 𝓣 = tables 𝓤 H 𝓜 𝓡 𝓡.env in let En = contract.ended X U g d dd in
    let Z : Al = record { row = U; laws = LU; g = g; d = d; drops = dd } in let E : El = record { row = X; laws = L } in
    let fn = inst_fn (args E Z) routine.Code.function in
    let W : RattleType = param 1 U in let hs = drops En in let c = contract.clauses X U g d dd 𝓛 𝓜.mem 𝓡.returns in
    let At = AddressOf (R E) in let Own = RowOf (R E) in let Right = ClaimOf (R E) W g in
    let Three : RattleType = Tuple (At ∷ Own ∷ Right ∷ []) in let Out : RattleType = core.result.Result.the_row Three core.alloc.AllocError.the_row in
    proved 𝓛 En hs c 𝓜 𝓡 (drops_go 𝓛 En (λ κs x f. refl, (λ κs x f. refl, tt))) (contract.Key.name (args E Z)) fn (routine.Code.unfolded 𝓤 H 𝓜 𝓡 wired (X, (U, tt)) d dd)
    (λ κs. (shr_vals, (uint_vals w64, tt))) (λ κs. (shr_Tells (named 0) κs.0 W, (uint_Tells w64, tt))) (λ κs qs bounds a gh are.
    let κ = κs.0 in let q = qs.0 in let handle : ℕ × ℕ = a.0.ref_ptr in let giver : U.Denot = a.0.now in let many : ℕ = a.1.0 in let each : ℕ = type_size (R E) in let step : ℕ = capped (align (elτ E)) in let τ : Ty = block_ty E many in
    let bound : (walk_of 𝓛 En hs c).Ghost = ((κs, qs, bounds, a, (vptr handle.0 handle.1 ∷ [], (vint w64 many ∷ [], tt))), gh) in let Ends : Val → SProp 𝓤 = (walk_of 𝓛 En hs c).post bound in
    let Promised : Out.Denot → Type 0 = λ got. IfOk got (λ t. (t.1.at ≡ t.0.at) × (t.1.cells ≡ empties many) × (t.2.at ≡ t.0.at) × (t.2.count ≡ many) × (t.2.alloc ≡ giver) × InBlock t.0.at) in
    qed 𝓛 (((‵ (flft κ q) ⊛ raw (toks 𝓛 2 κs.1 qs.1)) ⊛ ‵ (owns (types_at En.signature.params κs) a bound.0.4)) ∷ raw (fact 𝓤 (κs.1.0 ⊑ X.lives)) ∷ raw (fact 𝓤 (κs.1.1.0 ⊑ U.lives)) ∷ raw (fact 𝓤 (FitsInBlock (R E) many)) ∷ raw (fact 𝓤 (0 < many * each)) ∷ []) ∵
    keep ! (2 ∷ 3 ∷ 4 ∷ 0 ∷ []) $ heard ! (κs.1.1.0 ⊑ U.lives) (λ within. heard ! (FitsInBlock (R E) many) (λ fits. heard ! (0 < many * each) (λ some. split ! $ split ! $ move ! (2 ∷ []) $ fsplit ! $ fsplit ! $ keep ! (1 ∷ 3 ∷ 4 ∷ []) $
    let below : many * each < 2 ^ 63 = fits.0 in let short : many * each < 2 ^ 64 = omega arith in
    -- [the handle; its token; the other tokens]
    enter ! _ _ _ _ _ $ alloc_all ! (λ l. pass_all ! refl ((tt, tt), ((tt, record { fits = are.1.0.1 }), tt)) $ let Ev = env fn.locals l in
    let tail = after 3 fn.body in let Left = at_return 𝓤 H Ev Ends in
    let Onward : After 𝓤 H = any_q (after_seq 𝓤 H (Wp 𝓤 H 𝓣.C 𝓣.Λ Ev tail Left) Left) in let arms = head (after 2 fn.body) in
    let Asks = Takes Z 𝓛 𝓜.mem 𝓡.returns in let asked : Asks.Ghost = at_takes Z 𝓛 𝓜.mem 𝓡.returns κ q handle giver (many * each) step τ in
    sets ! (is ! (bin ! (get ! refl) (size_word !) (record { fits = subst (λ (k : ℕ). k < 2 ^ 64) (sym (uncapped many each short)) short })) (ap (vint w64) (uncapped many each short))) refl (tt, record { fits = short }) $
    use2 𝓛 (raw (Asks.pre asked)) (Takes-goes Z 𝓛 𝓜.mem 𝓡.returns κ q handle giver (Incl-trans bounds.0 within) (many * each) step τ (block_size E many short) (block_align E many) short (capped_fits (align (elτ E)))) $
    calls_at ! (framed 𝓤 H 𝓜 𝓣) Asks (met.allocate dd) asked (and_then ! (get ! refl) (and_then ! (get ! refl) (and_then ! (align_word !) (no_more !)))) (λ v.
    use1 𝓛 (later (raw (Answered Z 𝓛 𝓜.mem 𝓡.returns giver τ v) ⊛ ‵ (flft κ q))) (Takes-gives Z 𝓛 𝓜.mem 𝓡.returns κ q handle giver (many * each) step τ v) $
    await ! tt $ split ! $ move ! (1 ∷ 2 ∷ []) $ join ! $ move ! (1 ∷ []) $ answers Z ! 𝓜.mem 𝓡.returns giver τ v
    (λ b o e. let p : Ptr = block_ptr b o in let nought : WT mark = (tt, tt) in
    let x : Three.Denot = (record { at = p }, here E 𝓛 many b o, record { mark = record {}; at = p; count = many; alloc = giver }) in
    let inner : Val = vstruct (vcons (word p) (vcons mark (vcons mark vnil))) in let outer : Val = live 0 (vcons inner vnil) in let inside : WT inner = ((tt, tt), (nought, (nought, tt))) in let typed : WT outer = (record { fits = lit< tt }, (inside, tt)) in
    lands_as ! e refl (Answer-typed true b o) $
    first ! $ switches_on ! (get_tag ! (vrt ! refl (fld ! refl (stop !))) (whole !)) $ exec ! 𝓣.C 𝓣.Λ Ev (arm_body 0 arms) Onward $ sets ! (of_opd ! (get_in ! (vrt ! refl (fld ! refl (stop !))) (in_variant ! 0 0 refl refl (whole !)))) refl (tt, tt) $ sets ! (of_opd ! (get ! refl)) refl (tt, tt) $
    sets ! (agg ! (and_then ! (get ! refl) (no_more !))) refl (tt, (tt, tt)) $
    sets ! (agg ! (no_more !)) refl (tt, tt) $ sets ! (agg ! (and_then ! (get ! refl) (no_more !))) refl (tt, nought) $
    sets ! (agg ! (no_more !)) refl (tt, tt) $ sets ! (agg ! (and_then ! (get ! refl) (no_more !))) refl (tt, nought) $
    sets ! (agg ! (and_then ! (get ! refl) (and_then ! (get ! refl) (and_then ! (get ! refl) (no_more !))))) refl (tt, inside) $ sets_last ! (agg ! (and_then ! (lit ! tt) (and_then ! (get ! refl) (no_more !)))) refl (tt, typed) $
    exec ! 𝓣.C 𝓣.Λ Ev tail (at_ret Ev Ends) $ sets ! (of_opd ! (get ! refl)) refl (tt, typed) $ returns ! (look_at ! 0 refl) $ free_all ! refl $
    -- [the room; the right; the tokens]
    use1 𝓛 (‵ (froom (ty_array (elτ E) many) b o)) (𝓛.laws.raw-room (ty_array (elτ E) many) b o) $ use1 𝓛 (‵ (Own.own_val x.1 (mark ∷ []))) (row_of_room E 𝓛 many b o below) $ move ! (1 ∷ []) $
    rewrite ! 0 ‵ (sym (some_weight (many * each) (token Z giver τ p) some)) refl $ marked ! (R E) $ nothing ! $ move ! (1 ∷ 0 ∷ []) $ fjoin ! $ move ! (1 ∷ 0 ∷ []) $ fjoin ! $
    use0 𝓛 (‵ (At.own_val x.0 (word p ∷ []))) (address_made (R E) 𝓛 p) $ fjoin ! $
    use1 𝓛 (‵ (Three.own_val x (inner ∷ []))) (as_struct 𝓛 (declared (tuple_type (At ∷ Own ∷ Right ∷ []))) (x.0, (x.1, (x.2, tt))) (word p ∷ [], (mark ∷ [], (mark ∷ [], tt)))) $
    use1 𝓛 (‵ (Out.own_val (Ok x) (outer ∷ []))) (ok_of 𝓛 Three core.alloc.AllocError.the_row x inner) $
    tells ! (Promised (Ok x)) (refl, refl, refl, refl, refl, tt) $ spent ! 2 $ keep ! (3 ∷ 0 ∷ 2 ∷ 1 ∷ []) $ by ! (leaves 𝓛 En hs c bound outer (Ok x) (tt, (tt, tt)) (tt, (tt, tt))))
    (λ e. let bare : WT no_block = (record { fits = lit< tt }, (tt, tt)) in
    lands_as ! e refl (Answer-typed false 0 0) $
    first ! $ switches_on ! (get_tag ! (vrt ! refl (fld ! refl (stop !))) (whole !)) $ exec ! 𝓣.C 𝓣.Λ Ev (arm_body 1 arms) Onward $ sets ! (of_opd ! (get_in ! (vrt ! refl (fld ! refl (stop !))) (in_variant ! 1 0 refl refl (whole !)))) refl (tt, tt) $ sets_last ! (agg ! (and_then ! (lit ! tt) (and_then ! (get ! refl) (no_more !)))) refl (tt, bare) $
    exec ! 𝓣.C 𝓣.Λ Ev tail (at_ret Ev Ends) $ sets ! (of_opd ! (get ! refl)) refl (tt, bare) $ returns ! (look_at ! 0 refl) $ free_all ! refl $
    use0 𝓛 (‵ (Out.own_val (Err (record {})) (no_block ∷ []))) (refused 𝓛 Three) $
    tells ! (Promised (Err (record {}))) tt $ spent ! 2 $ keep ! (3 ∷ 0 ∷ 2 ∷ 1 ∷ []) $ by ! (leaves 𝓛 En hs c bound no_block (Err (record {})) (tt, (tt, tt)) (tt, (tt, tt))))))))))
