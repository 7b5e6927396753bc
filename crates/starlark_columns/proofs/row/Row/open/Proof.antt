-- `open` gives the memory of the cells to slots, where the slot of an empty cell holds a default. Assumes `Logic`.
use Rattle.starlark_columns.proofs.LogicNames.{◌≡◌, ℕ, ◌*◌, ◌<◌, ◌^◌, Bool, List, [], ◌∷◌, map, length, refl, sym, subst, ◌∙◌, lit<, w64, zero-mul, ftrue, fat, flft, full_share, SProp, never, id⊢, ◌⊑◌, fact, tables, inst_fn, a_type, named, Val, vint, vptr, WT, alloc_all, pass_all, free_all, look_at, take_at, give_at, get, get_in, is, sets, lands_last, env, ‵, raw, ◌⊛◌, some, given, later, at_ret, ◌$◌, ◌∵◌, !, qed, by, move, keep, use1, use2, split, split3, join, pick, learn, rewrite, fsplit, fsplit3, fjoin, fjoin3, feq_i, flt_i, flt_l, await, whole, sub, stop, fld, no_more, and_then, of_opd, first, blocks, exec, returns, enter, usize, yes, no, layout, layouts, uint_vals, uint_Tells, RattleType, owns, Ptr, in_block, in_a_block, mut_vals, mut_Tells, plain, types_at, heard, nothing, opens, closes, calls_at_last, framed, Stays, stay_dropped, stay_ref, walk_of, Goes-dropped, Goes-ref, El, after, Sr, row_val, slots_items, slots_filled, slots_ptr, slots_len, length-map, unwrap_or, is_some, proved, leaves, type_size, R, tells, spent}
use Rattle.core.proofs.slots.Slots.from_raw_parts.Met as callee
use Rattle.starlark_columns.proofs.RowValues.{word, word_good, address_told, AddressOf, RowOf, cells_owned, row_owned, to_slots, cells_back, held, From, at_from, Made, from_goes, from_gives, parts_typed, cells_of}
use Rattle.starlark_columns.specs.contracts.row.Row.open as contract
use Rattle.starlark_columns.proofs.row.Row.open as routine

pub open_spec : {M : Type 1} → routine.Statement.statement M
open_spec 𝓤 𝓛 𝓜 𝓡 wired X L =
    let H = 𝓛.H in let 𝓣 = tables 𝓤 H 𝓜 𝓡 𝓡.env in let En = contract.ended X in let E : El = record { row = X; laws = L } in let inst = layouts (a_type ∷ []) (X, tt) in let fn = inst_fn inst routine.Code.function in
    let c = contract.clauses X 𝓛 𝓜.mem 𝓡.returns in let At = AddressOf (R E) in let Own = RowOf (R E) in
    let met = callee.met 𝓤 𝓛 𝓜 𝓡 (routine.Code.calls-core::slots::Slots::from_raw_parts 𝓡.env wired) X L in
    let hs : Stays En.signature.params En.kept = (stay_ref (0 ∷ []) tt (plain (λ _. Own)), (stay_dropped (plain (λ _. At)) no, (stay_dropped (plain (λ _. usize)) yes, tt))) in
    proved 𝓛 En hs c 𝓜 𝓡 (Goes-ref 𝓛 2 0 tt (plain (λ _. Own)), (Goes-dropped 𝓛 2 (plain (λ _. At)) no (λ κs x f. refl), (Goes-dropped 𝓛 2 (plain (λ _. usize)) yes (λ κs x f. refl), tt)))
    (contract.Key.name inst) fn (routine.Code.unfolded 𝓤 H 𝓜 𝓡 wired (X, tt))
    (λ κs. (mut_vals, ((λ x. word x.at ∷ []), (uint_vals w64, tt)))) (λ κs. (mut_Tells (named 0) κs.0 Own, (address_told (R E), (uint_Tells w64, tt)))) (λ κs qs bounds a gh are.
    let κ = κs.0 in let q = qs.0 in let ι = κs.1.0 in let r = qs.1.0 in let self = a.0 in let rb = self.ref_ptr.0 in let ro = self.ref_ptr.1 in let h = self.now in let p = a.1.0.at in let n = a.1.1.0 in
    let s : ℕ = type_size (R E) in let cs = h.cells in let word_n : n < 2 ^ 64 = are.1.1.0.1 in let left : Own.Denot = record { mark = record {}; at = h.at; cells = [] } in
    let y : (walk_of 𝓛 En hs c).Ghost = ((κs, qs, bounds, a, (vptr rb ro ∷ [], (word p ∷ [], (vint w64 n ∷ [], tt)))), gh) in let Post : Val → SProp 𝓤 = (walk_of 𝓛 En hs c).post y in
    qed 𝓛 (((‵ (flft κ q) ⊛ ‵ (flft ι r) ⊛ ‵ ftrue) ⊛ ‵ (owns (types_at En.signature.params κs) a y.0.4)) ∷ raw (fact 𝓤 (ι ⊑ X.lives)) ∷ raw (fact 𝓤 X.Denot) ∷ raw (fact 𝓤 ((p ≡ h.at) × (n ≡ length cs))) ∷ []) ∵
    move ! (1 ∷ 2 ∷ 3 ∷ []) $ heard ! _ (λ lives. heard ! _ (λ any. heard ! _ (λ fits. split ! $ split3 ! $ move ! (3 ∷ []) $ fsplit ! $ fsplit3 ! $ keep ! (1 ∷ 2 ∷ 4 ∷ 5 ∷ []) $
    enter ! _ _ _ _ _ $ alloc_all ! (λ l. pass_all ! refl ((tt, tt), (word_good p, ((tt, record { fits = word_n }), tt))) $ let Ev = env fn.locals l in
    opens ! tt Own {h = h} rb ro (λ vs. move ! (1 ∷ []) $ fsplit ! $ move ! (1 ∷ []) $ fsplit ! $ flt_l ! (λ fit. in_a_block ! h.at (λ z. in_block z (cells_owned (R E) z cs)) (id⊢ 𝓤 (never 𝓤)) (λ b o at.
    -- [the cells; the mark; the cell, the open borrow and its names; the item's token]
    let small : n * s < 2 ^ 63 = subst (λ k. k * s < 2 ^ 63) (sym fits.1) fit in let xs : List X.Denot = map (λ c. unwrap_or c any) cs in let fs : List Bool = map is_some cs in
    let long_xs : n ≡ length xs = fits.1 ∙ sym (length-map cs (λ c. unwrap_or c any)) in let long_fs : n ≡ length fs = fits.1 ∙ sym (length-map cs is_some) in
    take_at ! 2 $ rewrite ! 0 (λ (z : Ptr). ‵ (fat full_share (layout At) (l 2) 0 (word z))) (fits.0 ∙ at) refl $ give_at ! 2 $
    rewrite ! 0 ‵ (to_slots E b any cs o) refl $
    let F = held E in let Slot : RattleType = Sr E in let t : (From F 𝓛 𝓜.mem 𝓡.returns).Ghost = at_from F 𝓛 𝓜.mem 𝓡.returns ι r b o n xs fs in let words : WT (row_val b o n) = (tt, (record { fits = word_n }, tt)) in
    move ! (0 ∷ 6 ∷ []) $ use2 𝓛 (raw ((From F 𝓛 𝓜.mem 𝓡.returns).pre t)) (from_goes F 𝓛 𝓜.mem 𝓡.returns ι r b o n xs fs lives long_xs long_fs word_n small) $ first ! $ blocks ! $
    calls_at_last ! (framed 𝓤 H 𝓜 𝓣) (From F 𝓛 𝓜.mem 𝓡.returns) met t (and_then ! (get_in ! (fld ! refl (stop !)) (sub ! 0 refl (whole !))) (and_then ! (get ! refl) (no_more !))) (λ v.
    use1 𝓛 (later (some (λ (x : Slot.Denot). given ((v ≡ row_val b o n) × Made F 𝓛 𝓜.mem 𝓡.returns ι r b o n xs fs x) (‵ (Slot.own_val x (row_val b o n ∷ [])) ⊛ ‵ (flft ι r)))))
    (from_gives F 𝓛 𝓜.mem 𝓡.returns ι r b o n xs fs v) $ await ! tt $ pick ! (λ x. learn ! (λ got. split ! $ let made = got.1 in
    lands_last ! refl (parts_typed v b o n got.0 word_n) $ exec ! 𝓣.C 𝓣.Λ Ev (after 1 fn.body) (at_ret Ev Post) $ sets ! (is ! (of_opd ! (get ! refl)) got.0) refl (tt, words) $
    -- [the slots; the item's token; the mark; the cell, the open borrow and its names]
    move ! (2 ∷ []) $ nothing ! $ flt_i ! (0 * s) (2 ^ 63) (subst (λ k. k < 2 ^ 63) (sym (zero-mul s)) (lit< tt)) $ fjoin ! $ rewrite ! 0 (λ (z : Ptr). ‵ (row_owned (R E) z [])) (sym at) refl $
    move ! (1 ∷ 0 ∷ []) $ fjoin ! $ move ! (3 ∷ 0 ∷ 4 ∷ 5 ∷ 6 ∷ []) $ closes ! tt Own left vs rb ro $ returns ! (look_at ! 0 refl) $ free_all ! refl $
    feq_i ! (List Val) (vptr rb ro ∷ []) (vptr rb ro ∷ []) refl $ fjoin3 ! $ spent ! 2 $ move ! (1 ∷ 0 ∷ []) $ fjoin ! $
    nothing ! $ move ! (4 ∷ 0 ∷ []) $ join ! $ move ! (2 ∷ 0 ∷ []) $ join ! $
    tells ! ((h.at ≡ h.at) × (left.cells ≡ [])) (refl, refl) $ tells ! ((slots_ptr x ≡ h.at) × (slots_len x ≡ n)) (made.0 ∙ sym at, made.1) $ join ! $
    tells ! (cells_of (slots_items x) (slots_filled x) ≡ cs) ((λ i. cells_of (made.2 i) (made.3 i)) ∙ cells_back any cs) $ join ! $
    move ! (1 ∷ 2 ∷ 3 ∷ 0 ∷ []) $ by ! (leaves 𝓛 En hs c y (row_val b o n) x (left, (tt, (tt, tt))) (tt, (tt, (tt, tt)))))))))))))))
