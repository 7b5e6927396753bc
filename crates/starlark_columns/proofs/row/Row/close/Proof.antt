-- `close` takes the memory of the slots back, and forgets the items of a range of them. Assumes `Logic`.
use Rattle.starlark_columns.proofs.LogicNames.{◌≡◌, ℕ, ◌*◌, ◌<◌, ◌^◌, Option, Bool, List, [], ◌∷◌, length, refl, sym, subst, ◌∙◌, w64, ftrue, flft, SProp, ◌⊑◌, fact, tables, inst_fn, a_type, named, Val, vunit, vint, vptr, WT, alloc_all, pass_all, free_all, look_at, get, is, sets, lands_last, env, ‵, raw, ◌⊛◌, given, later, at_ret, ◌$◌, ◌∵◌, !, qed, by, move, keep, use1, use2, split, split3, drop, join, learn, rewrite, fsplit, fsplit3, fjoin, fjoin3, feq_i, flt_i, await, unit_lit, no_more, and_then, of_opd, first, blocks, exec, returns, enter, usize, yes, no, layouts, uint_vals, uint_Tells, RattleType, owns, Ptr, block_ptr, mut_vals, mut_Tells, plain, types_at, heard, nothing, opens, closes, calls_at_last, framed, Stays, stay_dropped, stay_ref, walk_of, Goes-dropped, Goes-ref, El, after, Sr, words_val, row_val, row_had, row_made, slots, slots_items, slots_filled, slots_ptr, slots_len, slots_counts, slots_small, proved, leaves, type_size, R, tells, spent}
use Rattle.core.proofs.slots.Slots.into_raw_parts.Met as callee
use Rattle.starlark_columns.proofs.RowValues.{RowOf, row_owned, Row, of_slots, empties_run, cells_count, emptied_count, held, Into, at_into, Into-goes, Into-gives, row_told, row_good, parts_typed, cells_of, emptied}
use Rattle.starlark_columns.specs.contracts.row.Row.close as contract
use Rattle.starlark_columns.proofs.row.Row.close as routine

pub close_spec : {M : Type 1} → routine.Statement.statement M
close_spec 𝓤 𝓛 𝓜 𝓡 wired X L =
    let H = 𝓛.H in let 𝓣 = tables 𝓤 H 𝓜 𝓡 𝓡.env in let En = contract.ended X in let E : El = record { row = X; laws = L } in let inst = layouts (a_type ∷ []) (X, tt) in let fn = inst_fn inst routine.Code.function in
    let c = contract.clauses X 𝓛 𝓜.mem 𝓡.returns in let Own = RowOf (R E) in let Slot : RattleType = Sr E in
    let met = callee.met 𝓤 𝓛 𝓜 𝓡 (routine.Code.calls-core::slots::Slots::into_raw_parts 𝓡.env wired) X L in
    let hs : Stays En.signature.params En.kept = (stay_ref (0 ∷ []) tt (plain (λ _. Own)), (stay_dropped (plain (λ _. Slot)) no, (stay_dropped (plain (λ _. usize)) yes, (stay_dropped (plain (λ _. usize)) yes, tt)))) in
    proved 𝓛 En hs c 𝓜 𝓡 (Goes-ref 𝓛 2 0 tt (plain (λ _. Own)), (Goes-dropped 𝓛 2 (plain (λ _. Slot)) no (λ κs x f. refl), (Goes-dropped 𝓛 2 (plain (λ _. usize)) yes (λ κs x f. refl), (Goes-dropped 𝓛 2 (plain (λ _. usize)) yes (λ κs x f. refl), tt))))
    (contract.Key.name inst) fn (routine.Code.unfolded 𝓤 H 𝓜 𝓡 wired (X, tt))
    (λ κs. (mut_vals, ((λ x. words_val (slots_ptr x) (slots_len x) ∷ []), (uint_vals w64, (uint_vals w64, tt))))) (λ κs. (mut_Tells (named 0) κs.0 Own, (row_told E, (uint_Tells w64, (uint_Tells w64, tt))))) (λ κs qs bounds a gh are.
    let κ = κs.0 in let q = qs.0 in let ι = κs.1.0 in let w = qs.1.0 in let self = a.0 in let rb = self.ref_ptr.0 in let ro = self.ref_ptr.1 in let h = self.now in let r : Slot.Denot = a.1.0 in let from = a.1.1.0 in let to = a.1.1.1.0 in
    let p : Ptr = slots_ptr r in let n : ℕ = slots_len r in let xs : List X.Denot = slots_items r in let fs : List Bool = slots_filled r in let s : ℕ = type_size (R E) in
    let cs : List (Option X.Denot) = emptied from to (cells_of xs fs) in let new : Own.Denot = record { mark = record {}; at = h.at; cells = cs } in
    let y : (walk_of 𝓛 En hs c).Ghost = ((κs, qs, bounds, a, (vptr rb ro ∷ [], (words_val p n ∷ [], (vint w64 from ∷ [], (vint w64 to ∷ [], tt))))), gh) in let Post : Val → SProp 𝓤 = (walk_of 𝓛 En hs c).post y in
    qed 𝓛 (((‵ (flft κ q) ⊛ ‵ (flft ι w) ⊛ ‵ ftrue) ⊛ ‵ (owns (types_at En.signature.params κs) a y.0.4)) ∷ raw (fact 𝓤 (ι ⊑ X.lives)) ∷ raw (fact 𝓤 ((p ≡ h.at) × (h.cells ≡ []))) ∷ []) ∵
    move ! (1 ∷ 2 ∷ []) $ heard ! _ (λ lives. heard ! _ (λ fits. split ! $ split3 ! $ move ! (3 ∷ []) $ fsplit ! $ fsplit3 ! $ keep ! (3 ∷ 1 ∷ 2 ∷ 4 ∷ 5 ∷ []) $ fsplit ! $ keep ! (2 ∷ 3 ∷ 4 ∷ 0 ∷ 5 ∷ []) $
    enter ! _ _ _ _ _ $ alloc_all ! (λ l. pass_all ! refl ((tt, tt), (row_good p n (slots_small r), ((tt, record { fits = are.1.1.0.1 }), ((tt, record { fits = are.1.1.1.0.1 }), tt)))) $ let Ev = env fn.locals l in
    opens ! tt Own {h = h} rb ro (λ vs. move ! (1 ∷ []) $ fsplit ! $ move ! (1 ∷ []) $ drop ! $ move ! (5 ∷ []) $ row_had E ! r (words_val p n ∷ []) (λ b o at e word small. row_made E ! r b o at word small $
    -- [the slots; the mark; the cell, the open borrow and its names; the item's token]
    let words : WT (row_val b o n) = (tt, (record { fits = word }, tt)) in let F = held E in let t : (Into F 𝓛 𝓜.mem 𝓡.returns).Ghost = at_into F 𝓛 𝓜.mem 𝓡.returns ι w r b o in
    first ! $ blocks ! $ sets ! (is ! (of_opd ! (get ! refl)) (λ i. words_val (at i) n)) refl (tt, words) $
    move ! (0 ∷ 6 ∷ []) $ use2 𝓛 (raw ((Into F 𝓛 𝓜.mem 𝓡.returns).pre t)) (Into-goes F 𝓛 𝓜.mem 𝓡.returns ι w r b o lives) $
    calls_at_last ! (framed 𝓤 H 𝓜 𝓣) (Into F 𝓛 𝓜.mem 𝓡.returns) met t (and_then ! (get ! refl) (no_more !)) (λ v.
    use1 𝓛 (later (given (v ≡ row_val b o n) (‵ (slots (R E) (block_ptr b o) xs fs) ⊛ ‵ (flft ι w)))) (Into-gives F 𝓛 𝓜.mem 𝓡.returns ι w r b o v at) $ await ! tt $ learn ! (λ got. split ! $
    lands_last ! refl (parts_typed v b o n got word) $ exec ! 𝓣.C 𝓣.Λ Ev (after 1 fn.body) (at_ret Ev Post) $ sets ! (is ! (of_opd ! (get ! refl)) got) refl (tt, words) $ sets ! (of_opd ! (unit_lit !)) refl (tt, tt) $
    rewrite ! 0 ‵ (of_slots E b xs fs o) refl $ use1 𝓛 (‵ (Row E b o cs)) (empties_run E b 𝓛 from to (cells_of xs fs) o) $
    let counts = slots_counts r in let long : length cs ≡ n = emptied_count from to (cells_of xs fs) ∙ cells_count xs fs (sym counts.1 ∙ counts.0) ∙ sym counts.0 in
    flt_i ! (length cs * s) (2 ^ 63) (subst (λ k. k * s < 2 ^ 63) (sym long) small) $ fjoin ! $ rewrite ! 0 (λ (z : Ptr). ‵ (row_owned (R E) z cs)) (sym at ∙ fits.0) refl $
    move ! (2 ∷ 0 ∷ []) $ fjoin ! $ move ! (2 ∷ 0 ∷ 3 ∷ 4 ∷ 5 ∷ []) $ closes ! tt Own new vs rb ro $ returns ! (look_at ! 0 refl) $ free_all ! refl $
    feq_i ! (List Val) (vptr rb ro ∷ []) (vptr rb ro ∷ []) refl $ fjoin3 ! $ spent ! 3 $ move ! (1 ∷ 0 ∷ []) $ fjoin ! $
    nothing ! $ move ! (3 ∷ 0 ∷ []) $ join ! $ move ! (2 ∷ 0 ∷ []) $ join ! $ feq_i ! (List Val) (vunit ∷ []) (vunit ∷ []) refl $
    tells ! ((h.at ≡ h.at) × (cs ≡ cs)) (refl, refl) $ move ! (2 ∷ 3 ∷ 1 ∷ 0 ∷ []) $ by ! (leaves 𝓛 En hs c y vunit tt (new, (tt, (tt, (tt, tt)))) (tt, (tt, (tt, (tt, tt)))))))))))))
