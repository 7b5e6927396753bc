-- `get_mut` lends one item, and the row ends as its loan says. Assumes `Logic`.
use Rattle.starlark_columns.proofs.LogicNames.{◌≡◌, ◌+◌, Some, get_or, slice_set, ℕ, ◌*◌, ◌<◌, ◌^◌, Option, List, [], ◌∷◌, length, refl, sym, ap, subst, ◌∙◌, arith, w64, GName, ftrue, fat, flft, full_share, SProp, sep, never, id⊢, ◌⊑◌, fact, tables, inst_fn, a_type, named, Val, vint, vptr, alloc_all, pass_all, free_all, look_at, take_at, give_at, get, get_in, through, is, sets, sets_last, env, ‵, raw, ◌⊛◌, some, later, at_ret, ◌$◌, ◌∵◌, !, qed, by, move, keep, use1, split, split3, join, pick, rewrite, fsplit, fsplit3, group, fjoin, flt_l, await, sem, whole, sub, stop, bin, addr, size_word, fld, of_opd, first, blocks, exec, returns, enter, layout, layouts, uint_vals, uint_Tells, RattleType, owns, Ptr, in_block, in_a_block, follows, Part, lends_Part, MutBor, MutRef, mut_vals, mut_Tells, types_at, heard, nothing, opens, walk_of, El, times_below, uncapped, after, proved, leaves, type_size, None, R, IsFilled, tells, spent, drops, drops_go}
use Rattle.starlark_columns.proofs.RowValues.{word, word_good, address_told, AddressOf, RowOf, cells_owned, Cell, Without, cell_out, with_cells, filled_within, Shell, cell_shut}
use Rattle.starlark_columns.specs.contracts.row.Row.get_mut as contract
use Rattle.starlark_columns.proofs.row.Row.get_mut as routine

pub get_mut_spec : {M : Type 1} → routine.Statement.statement M
get_mut_spec 𝓤 𝓛 𝓜 𝓡 wired X L =
    let H = 𝓛.H in let 𝓣 = tables 𝓤 H 𝓜 𝓡 𝓡.env in let En = contract.ended X in let E : El = record { row = X; laws = L } in let inst = layouts (a_type ∷ []) (X, tt) in let fn = inst_fn inst routine.Code.function in
    let c = contract.clauses X 𝓛 𝓜.mem 𝓡.returns in let At = AddressOf (R E) in let Own = RowOf (R E) in let hs = drops En in
    proved 𝓛 En hs c 𝓜 𝓡 (drops_go 𝓛 En (λ κs x f. refl, (λ κs x f. refl, (λ κs x f. refl, tt)))) (contract.Key.name inst) fn (routine.Code.unfolded 𝓤 H 𝓜 𝓡 wired (X, tt))
    (λ κs. (mut_vals, ((λ x. word x.at ∷ []), (uint_vals w64, tt)))) (λ κs. (mut_Tells (named 0) κs.0 Own, (address_told (R E), (uint_Tells w64, tt)))) (λ κs qs bounds a gh are.
    let κ = κs.0 in let q = qs.0 in let ι = κs.1.0 in let w = qs.1.0 in let self = a.0 in let γ = self.ghost_name in let rb = self.ref_ptr.0 in let ro = self.ref_ptr.1 in let h = self.now in let p = a.1.0.at in let i = a.1.1.0 in
    let cs : List (Option X.Denot) = h.cells in let s : ℕ = type_size (R E) in let Out : RattleType = MutRef (named 0) κ (R E) in
    let y : (walk_of 𝓛 En hs c).Ghost = ((κs, qs, bounds, a, (vptr rb ro ∷ [], (word p ∷ [], (vint w64 i ∷ [], tt)))), gh) in let Post : Val → SProp 𝓤 = (walk_of 𝓛 En hs c).post y in
    qed 𝓛 (((‵ (flft κ q) ⊛ ‵ (flft ι w) ⊛ ‵ ftrue) ⊛ ‵ (owns (types_at En.signature.params κs) a y.0.4)) ∷ raw (fact 𝓤 (ι ⊑ X.lives)) ∷ raw (fact 𝓤 (p ≡ h.at)) ∷ raw (fact 𝓤 (IsFilled cs i)) ∷ []) ∵
    move ! (2 ∷ 3 ∷ []) $ heard ! _ (λ its. heard ! _ (λ full. split ! $ split3 ! $ move ! (3 ∷ []) $ fsplit ! $ fsplit3 ! $ keep ! (1 ∷ 2 ∷ 4 ∷ 5 ∷ []) $
    let x : X.Denot = full.0 in let there = full.1 in let lt : i < length cs = filled_within cs i full in let at_first = Own.coded.code h in
    enter ! _ _ _ _ _ $ alloc_all ! (λ l. pass_all ! refl ((tt, tt), (word_good p, ((tt, record { fits = are.1.1.0.1 }), tt))) $ let Ev = env fn.locals l in
    opens ! tt Own {h = h} rb ro (λ vs. move ! (1 ∷ []) $ fsplit ! $ move ! (1 ∷ []) $ fsplit ! $ flt_l ! (λ small. in_a_block ! h.at (λ z. in_block z (cells_owned (R E) z cs)) (id⊢ 𝓤 (never 𝓤)) (λ b o at.
    -- [the cells; the mark; the cell, the open borrow and its names; the item's token]
    let far : i * s < 2 ^ 64 = omega (arith, times_below i (length cs) s (2 ^ 63) (omega (arith, lt)) small) in let here : ℕ × ℕ = (b, i * s + o) in
    take_at ! 2 $ rewrite ! 0 (λ (z : Ptr). ‵ (fat full_share (layout At) (l 2) 0 (word z))) (its ∙ at) refl $ give_at ! 2 $ first ! $ blocks ! $
    sets ! (is ! (bin ! (get ! refl) (size_word !) (record { fits = subst (λ (k : ℕ). k < 2 ^ 64) (sym (uncapped i s far)) far })) (ap (vint w64) (uncapped i s far))) refl (tt, record { fits = far }) $
    sets ! (bin ! (get_in ! (fld ! refl (stop !)) (sub ! 0 refl (whole !))) (get ! refl) tt) refl (tt, tt) $
    sets_last ! (addr ! (through ! refl (stop !))) refl (tt, tt) $ exec ! 𝓣.C 𝓣.Λ Ev (after 1 fn.body) (at_ret Ev Post) $ sets ! (of_opd ! (get ! refl)) refl (tt, tt) $
    use1 𝓛 (‵ (Cell E b here.1 (get_or cs i None)) ⊛ raw (Without E b 𝓛 cs i o)) (cell_out E b 𝓛 cs i o lt) $ split ! $ rewrite ! 0 (λ (c : Option X.Denot). ‵ (Cell E b here.1 c)) there refl $
    let way = cell_shut E 𝓛 h rb ro vs b o at small i in let renew : X.Denot → Own.Denot = λ x. with_cells h (slice_set cs i (Some x)) in let Kept : SProp 𝓤 = sep 𝓤 (Without E b 𝓛 cs i o) (sem 𝓛 (Shell E 𝓛 h rb ro vs b o)) in
    move ! (2 ∷ 3 ∷ []) $ fjoin ! $ move ! (2 ∷ 0 ∷ []) $ join ! $ move ! (2 ∷ 3 ∷ 4 ∷ 1 ∷ 0 ∷ []) $ group ! 5 $
    use1 𝓛 (later (some (λ (δ : GName). raw (Part 𝓛 Own (R E) renew (named 0) κ q rb ro b here.1 γ Kept way x δ)))) (lends_Part 𝓛 Own (R E) renew (named 0) κ q rb ro b here.1 γ Kept way at_first at_first x) $ await ! tt $ pick ! (λ δ.
    let v : Val = vptr b here.1 in let r : MutBor X.Denot = record { ref_ptr = here; ghost_name = δ; now = x } in
    returns ! (look_at ! 0 refl) $ free_all ! refl $
    use1 𝓛 (‵ (Out.own_val r (v ∷ [])) ⊛ ‵ (flft κ q) ⊛ ‵ (follows Own (R E) γ δ renew)) (id⊢ 𝓤 _) $ split3 ! $
    -- [the reference; its token; what follows it; the item's token]
    nothing ! $ move ! (4 ∷ 0 ∷ []) $ join ! $ move ! (2 ∷ 0 ∷ []) $ join ! $ move ! (2 ∷ []) $ tells ! (get_or cs i None ≡ Some x) there $ move ! (1 ∷ 0 ∷ []) $ join ! $
    spent ! 3 $ move ! (2 ∷ 0 ∷ 3 ∷ 1 ∷ []) $ by ! (leaves 𝓛 En hs c y v r (tt, (tt, (tt, tt))) (tt, (tt, (tt, tt))))))))))))
