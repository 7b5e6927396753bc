-- `items_mut` lends the items at the front, and the row ends as their loan says. Assumes `Logic`.
use Rattle.starlark_columns.proofs.LogicNames.{◌≡◌, ◌+◌, ◌-◌, Some, ℕ, ◌*◌, ◌<◌, ◌^◌, Option, List, [], ◌∷◌, map, length, refl, sym, ap, ◌∙◌, arith, w64, GName, ftrue, fsep, fat, flft, full_share, SProp, never, id⊢, ◌⊑◌, fact, tables, inst_fn, a_type, named, ty_ptr, Val, vint, vptr, has_ty, WT, alloc_all, pass_all, free_all, look_at, take_at, give_at, get, get_in, sets, sets_last, env, ‵, raw, ◌⊛◌, some, later, at_ret, ◌$◌, ◌∵◌, !, qed, by, move, keep, use1, split, split3, join, pick, rewrite, fsplit, fsplit3, group, fjoin3, flt_l, await, sem, whole, sub, agg, stop, fld, no_more, and_then, of_opd, first, blocks, exec, returns, enter, layout, layouts, uint_vals, uint_Tells, RattleType, owns, Ptr, in_block, in_a_block, Array, follows, Elements, lends_Elements, MutBor, mut_vals, mut_Tells, MutSlice, slice_ty, slice_val, types_at, heard, nothing, opens, walk_of, El, times_below, after, length-map, proved, leaves, type_size, T, R, items_of, empties, tells, spent, drops, drops_go}
use Rattle.starlark_columns.proofs.ItemsAtFront.{IsFront, with_items, row_is}
use Rattle.starlark_columns.proofs.RowValues.{word, word_good, address_told, AddressOf, RowOf, cells_owned, Row, cut, of_items, with_cells, Shell, front_shut}
use Rattle.starlark_columns.specs.contracts.row.Row.items_mut as contract
use Rattle.starlark_columns.proofs.row.Row.items_mut as routine

pub items_mut_spec : {M : Type 1} → routine.Statement.statement M
items_mut_spec 𝓤 𝓛 𝓜 𝓡 wired X L =
    let H = 𝓛.H in let 𝓣 = tables 𝓤 H 𝓜 𝓡 𝓡.env in let En = contract.ended X in let E : El = record { row = X; laws = L } in let inst = layouts (a_type ∷ []) (X, tt) in let fn = inst_fn inst routine.Code.function in
    let c = contract.clauses X 𝓛 𝓜.mem 𝓡.returns in let At = AddressOf (R E) in let Own = RowOf (R E) in let hs = drops En in
    proved 𝓛 En hs c 𝓜 𝓡 (drops_go 𝓛 En (λ κs x f. refl, (λ κs x f. refl, (λ κs x f. refl, tt)))) (contract.Key.name inst) fn (routine.Code.unfolded 𝓤 H 𝓜 𝓡 wired (X, tt))
    (λ κs. (mut_vals, ((λ x. word x.at ∷ []), (uint_vals w64, tt)))) (λ κs. (mut_Tells (named 0) κs.0 Own, (address_told (R E), (uint_Tells w64, tt)))) (λ κs qs bounds a gh are.
    let κ = κs.0 in let q = qs.0 in let ι = κs.1.0 in let w = qs.1.0 in let self = a.0 in let γ = self.ghost_name in let rb = self.ref_ptr.0 in let ro = self.ref_ptr.1 in let h = self.now in let p = a.1.0.at in let n = a.1.1.0 in
    let cs : List (Option X.Denot) = h.cells in let s : ℕ = type_size (R E) in let Out : RattleType = MutSlice (named 0) κ (R E) in
    let y : (walk_of 𝓛 En hs c).Ghost = ((κs, qs, bounds, a, (vptr rb ro ∷ [], (word p ∷ [], (vint w64 n ∷ [], tt)))), gh) in let Post : Val → SProp 𝓤 = (walk_of 𝓛 En hs c).post y in
    qed 𝓛 (((‵ (flft κ q) ⊛ ‵ (flft ι w) ⊛ ‵ ftrue) ⊛ ‵ (owns (types_at En.signature.params κs) a y.0.4)) ∷ raw (fact 𝓤 (ι ⊑ X.lives)) ∷ raw (fact 𝓤 (p ≡ h.at)) ∷ raw (fact 𝓤 (IsFront cs n)) ∷ []) ∵
    move ! (2 ∷ 3 ∷ []) $ heard ! _ (λ its. heard ! _ (λ front. split ! $ split3 ! $ move ! (3 ∷ []) $ fsplit ! $ fsplit3 ! $ keep ! (1 ∷ 2 ∷ 4 ∷ 5 ∷ []) $
    let xs : List X.Denot = items_of cs in let long : length xs ≡ n = front.count in let at_first = Own.coded.code h in
    enter ! _ _ _ _ _ $ alloc_all ! (λ l. pass_all ! refl ((tt, tt), (word_good p, ((tt, record { fits = are.1.1.0.1 }), tt))) $ let Ev = env fn.locals l in
    opens ! tt Own {h = h} rb ro (λ vs. move ! (1 ∷ []) $ fsplit ! $ move ! (1 ∷ []) $ fsplit ! $ flt_l ! (λ small. in_a_block ! h.at (λ z. in_block z (cells_owned (R E) z cs)) (id⊢ 𝓤 (never 𝓤)) (λ b o at.
    -- [the cells; the mark; the cell, the open borrow and its names; the item's token]
    let here : ℕ × ℕ = (b, o) in let count : n < 2 ^ 64 = are.1.1.0.1 in let good : T (has_ty (slice_ty ty_ptr) (slice_val here n)) × WT (slice_val here n) = (tt, (tt, (record { fits = count }, tt))) in
    take_at ! 2 $ rewrite ! 0 (λ (z : Ptr). ‵ (fat full_share (layout At) (l 2) 0 (word z))) (its ∙ at) refl $ give_at ! 2 $ first ! $ blocks ! $
    sets_last ! (agg ! (and_then ! (get_in ! (fld ! refl (stop !)) (sub ! 0 refl (whole !))) (and_then ! (get ! refl) (no_more !)))) refl good $ exec ! 𝓣.C 𝓣.Λ Ev (after 1 fn.body) (at_ret Ev Post) $ sets ! (of_opd ! (get ! refl)) refl good $
    let free = empties (length cs - n) in let end : ℕ = n * s + o in
    rewrite ! 0 (λ (ds : List (Option X.Denot)). ‵ (Row E b o ds)) (row_is cs n front) refl $
    use1 𝓛 (‵ (Row E b o (map Some xs)) ⊛ ‵ (Row E b end free)) (cut E b 𝓛 (map Some xs) free o end (ap (λ (k : ℕ). k * s + o) (sym (length-map xs Some ∙ long)))) $ split ! $
    rewrite ! 0 ‵ (sym (of_items E b xs o)) refl $
    let fits : (length xs < 2 ^ 64) × (length xs * s < 2 ^ 63) = (omega (arith, long, count), times_below (length xs) (length cs) s (2 ^ 63) (omega (arith, long, front.within)) small) in
    let way = front_shut E 𝓛 h rb ro vs b o at small n front in let renew : List X.Denot → Own.Denot = λ ws. with_cells h (with_items cs ws) in let Kept : SProp 𝓤 = sem 𝓛 (fsep (Row E b end free) (Shell E 𝓛 h rb ro vs b o)) in
    move ! (1 ∷ 2 ∷ 3 ∷ []) $ fjoin3 ! $ move ! (2 ∷ 3 ∷ 4 ∷ 1 ∷ 0 ∷ []) $ group ! 5 $
    use1 𝓛 (later (some (λ (δ : GName). raw (Elements 𝓛 Own (R E) renew (named 0) κ q rb ro b here.1 γ xs fits Kept way δ)))) (lends_Elements 𝓛 Own (R E) renew (named 0) κ q rb ro b here.1 γ xs fits Kept way at_first at_first) $ await ! tt $ pick ! (λ δ.
    let v : Val = slice_val here n in let r : MutBor (List X.Denot) = record { ref_ptr = here; ghost_name = δ; now = xs } in
    returns ! (look_at ! 0 refl) $ free_all ! refl $
    use1 𝓛 (‵ (Out.own_val r (slice_val here (length xs) ∷ [])) ⊛ ‵ (flft κ q) ⊛ ‵ (follows Own (Array (R E) 0) γ δ renew)) (id⊢ 𝓤 _) $ split3 ! $
    rewrite ! 0 (λ (k : ℕ). ‵ (Out.own_val r (slice_val here k ∷ []))) long refl $
    -- [the slice; its token; what follows it; the item's token]
    nothing ! $ move ! (4 ∷ 0 ∷ []) $ join ! $ move ! (2 ∷ 0 ∷ []) $ join ! $ move ! (2 ∷ []) $ tells ! (xs ≡ xs) refl $ move ! (1 ∷ 0 ∷ []) $ join ! $
    spent ! 3 $ move ! (2 ∷ 0 ∷ 3 ∷ 1 ∷ []) $ by ! (leaves 𝓛 En hs c y v r (tt, (tt, (tt, tt))) (tt, (tt, (tt, tt))))))))))))
