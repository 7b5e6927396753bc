-- `get_unchecked_mut` meets its contract. The borrow of the struct stays open while both columns are lent to one call,
-- and is closed by what they end as. Assumes `Logic`.
use Rattle.starlark_columns.proofs.LogicNames.{slice_get, !, Contract, Fml, Lft, List, MutBor, None, RattleType, SProp, Share, Val, [], a_type, addr, ages, alloc_all, and_then, ap, await, bor_new_deep, both_by, by, calls_at, drop, ensured, enter, ex_e, fact, fauth, feq_i, fjoin, fjoin3, fld, flft, follows, follows_both, fpack, framed, free_all, fsep, fsplit, fsplit3, ftrue, get, get_or, group, heard, id⊢, inst_fn, join, keep, lands_as, lasts, later, layouts, leaves, length, load, look_at, mem, move, mut_Tells, mut_vals, name_new, named, no_more, nothing, of_list, of_opd, only, open_ref, owned, owns, param, param_laws, pass_all, pick, proved, qed, raw, refl, returns, sem, sets, slice_set, snd∗, some, split, split3, stop, tables, through, triple_of, types_at, uint_Makes, uint_Tells, uint_vals, use0, use1, use2, usize, vint, vptr, vstruct, w64, walk_of, ‵, ℕ, ◌$◌, ◌++◌, ◌+◌, ◌<◌, ◌∙◌, ◌∵◌, ◌∷◌, ◌≡◌, ◌⊑◌, ◌⊛◌, tells, spent, drops, drops_go, look_in, sub, whole, mean, peeks, shows, rewrite}
use Rattle.starlark_vec2.proofs.ColumnNames.{At, Some, with_cells, words, words_good, spot_made, front_filled, front_taken, column, with_pair, PairList}
use base.Share
use Rattle.starlark_vec2.proofs.TwoLoans.{closes_both}
use Rattle.starlark_vec2.proofs.LentInOption.{PairOf, pair_val}
use Rattle.starlark_vec2.proofs.TwoColumns.{in_columns, pair_is}
use Rattle.starlark_vec2.proofs.Vec2Open.{V, Held, held, fields_value, Rest, Cuts, firsts_offset, seconds_offset, cut, shut, at_behind, at_front, written, written_known}
use Rattle.starlark_vec2.specs.contracts.vec2.get_mut.lend_columns as g
use Rattle.starlark_vec2.proofs.vec2.get_mut.lend_columns.Met as lend
use Rattle.starlark_vec2.specs.contracts.vec2.Vec2.get_unchecked_mut as contract
use Rattle.starlark_vec2.proofs.vec2.Vec2.get_unchecked_mut as routine

pub get_unchecked_mut_spec : {M : Type 1} → routine.Statement.statement M
unfolding both_by
get_unchecked_mut_spec 𝓤 𝓛 𝓜 𝓡 wired X Y LX LY =
    let H = 𝓛.H in let 𝓣 = tables 𝓤 H 𝓜 𝓡 𝓡.env in let En = contract.ended X Y in let hs = drops En in let inst = layouts (a_type ∷ a_type ∷ []) (X, (Y, tt)) in let fn = inst_fn inst routine.Code.function in
    let c = contract.clauses X Y 𝓛 𝓜.mem 𝓡.returns in let A : RattleType = param 0 X in let B : RattleType = param 1 Y in let W : RattleType = V A B in let CA = column A in let CB = column B in let LA = param_laws 0 X LX in let LB = param_laws 1 Y LY in
    let Lend : Contract 𝓤 = triple_of 𝓛 (g.signature X Y) (g.spec X Y 𝓛 𝓜.mem 𝓡.returns) in let met = lend.met 𝓤 𝓛 𝓜 𝓡 (routine.Code.calls-starlark_vec2::vec2::get_mut::lend_columns 𝓡.env wired) X Y LX LY in
    proved 𝓛 En hs c 𝓜 𝓡 (drops_go 𝓛 En (λ κs x f. refl, (λ κs x f. refl, tt))) (contract.Key.name inst) fn (routine.Code.unfolded 𝓤 H 𝓜 𝓡 wired (X, (Y, tt)))
    (λ κs. (mut_vals, (uint_vals w64, tt))) (λ κs. (mut_Tells (named 0) κs.0 W, (uint_Tells w64, tt))) (λ κs qs bounds a gh are.
    let κ : Lft = κs.0 in let q : Share = qs.0 in let r : MutBor (PairList X.Denot Y.Denot) = a.0 in let b : ℕ = r.ref_ptr.0 in let o : ℕ = r.ref_ptr.1 in let v = r.now in let γ = r.ghost_name in let i : ℕ = a.1.0 in
    let y : (walk_of 𝓛 En hs c).Ghost = ((κs, qs, bounds, a, (mut_vals r, (vint w64 i ∷ [], tt))), gh) in let Post : Val → SProp 𝓤 = (walk_of 𝓛 En hs c).post y in
    let others : Fml = fsep (flft κs.1.0 qs.1.0) (fsep (flft κs.1.1.0 qs.1.1.0) ftrue) in
    qed 𝓛 (((‵ (flft κ q) ⊛ ‵ others) ⊛ ‵ (owns (types_at En.signature.params κs) a y.0.4)) ∷ raw (fact 𝓤 (κs.1.0 ⊑ X.lives)) ∷ raw (fact 𝓤 (κs.1.1.0 ⊑ Y.lives)) ∷ raw (fact 𝓤 (i < length v.pairs)) ∷ []) ∵
    move ! (1 ∷ 2 ∷ 3 ∷ []) $ heard ! _ (λ la. heard ! _ (λ lb. heard ! _ (λ lt. split ! $ split ! $ move ! (2 ∷ []) $ fsplit ! $ keep ! (2 ∷ 3 ∷ 0 ∷ []) $
    -- [the token of κ; the others; self]
    enter ! 𝓣.C 𝓣.Λ fn (vptr b o ∷ vint w64 i ∷ []) Post $ alloc_all ! (λ l. pass_all ! refl ((tt, tt), ((tt, record { fits = are.1.0.1 }), tt)) $
    -- half of κ's token opens the struct, and half goes into the call
    use1 𝓛 (‵ (flft κ (Share.left q)) ⊛ ‵ (flft κ (Share.right q))) (𝓛.lfts.lft_split κ q) $ split ! $ move ! (3 ∷ []) $ fsplit3 ! $ drop ! $ open_ref ! tt (mem W) {b = b} {o = o} $
    use1 𝓛 (some (Held A B LA LB 𝓛 b o v)) (held A B LA LB 𝓛 b o v) $ pick ! (λ f. split ! $
    let d = f.0 in let known = f.2 in let told = f.3 in let rx = d.firsts in let ry = d.seconds in let xs = rx.cells in let ys = ry.cells in let oA = o + firsts_offset A B in let oB = o + seconds_offset A B in
    let at = d.spot in let index : Val = words at.address.at at.count in
    -- the spot is read from memory
    sets ! (of_opd ! (load ! (through ! refl (fld ! refl (stop !))) (look_in ! 0 (sub ! 3 refl (whole !))))) refl (words_good at.address.at at.count told.1) $
    sets ! (addr ! (through ! refl (fld ! refl (stop !)))) refl (tt, tt) $ sets ! (addr ! (through ! refl (fld ! refl (stop !)))) refl (tt, tt) $
    use2 𝓛 (Cuts A B LA LB 𝓛 b o d) (cut A B LA LB 𝓛 b o d (fields_value A B d f.1)) $ split3 ! $
    -- [the columns; the rest; the open borrow; obs; auth; half of κ's token; the others]
    name_new ! tt (CA.coded.code rx) (λ δ. move ! (2 ∷ 1 ∷ []) $ fjoin ! $ fpack ! CA.Denot (λ z. fsep ((mem CA).own_at z b oA) (fauth δ (CA.coded.code z))) rx $
    name_new ! tt (CB.coded.code ry) (λ δ'. move ! (4 ∷ 1 ∷ []) $ fjoin ! $ fpack ! CB.Denot (λ z. fsep ((mem CB).own_at z b oB) (fauth δ' (CB.coded.code z))) ry $
    -- [the second content; obs δ'; the first; obs δ; the rest; the open borrow; obs; auth; ..]
    move ! (5 ∷ []) $ ages ! (λ n. move ! (1 ∷ []) $ bor_new_deep ! tt n κ $ move ! (4 ∷ []) $ bor_new_deep ! tt n κ $
    -- [the first borrow and its right; the second and its; the open borrow; obs δ'; obs δ; the rest; obs; auth; half of κ's
    -- token; the others]
    let xr : MutBor CA.Denot = record { ref_ptr = (b, oA); ghost_name = δ; now = rx } in let yr : MutBor CB.Denot = record { ref_ptr = (b, oB); ghost_name = δ'; now = ry } in
    let in_row : i < d.len = in_columns xs ys d.len known.1.0 v known.0 i lt in
    move ! (6 ∷ 0 ∷ []) $ feq_i ! (List Val) (mut_vals xr) (mut_vals xr) refl $ fjoin3 ! $ move ! (5 ∷ 2 ∷ []) $ feq_i ! (List Val) (mut_vals yr) (mut_vals yr) refl $ fjoin3 ! $
    nothing ! $ owned ! usize _ (uint_Makes 𝓛 w64) i _ (refl, are.1.0.1) $ fjoin ! $ use0 𝓛 (‵ ((At B).own_val at (index ∷ []))) (spot_made B 𝓛 at told.1) $ fjoin ! $ move ! (1 ∷ 0 ∷ []) $ fjoin ! $ move ! (1 ∷ 0 ∷ []) $ fjoin ! $
    move ! (7 ∷ 8 ∷ 0 ∷ []) $ join ! $ join ! $ tells ! _ (front_filled ys d.len known.1.0.seconds_front i in_row) $ tells ! _ (front_filled xs d.len known.1.0.firsts_front i in_row) $
    tells ! _ (at_front A B v d known) $ tells ! _ (at_behind A B v d known told) $ tells ! _ lb $ tells ! _ la $ group ! 6 $ move ! (1 ∷ 0 ∷ []) $ join ! $
    let z : Lend.Ghost = ((κs, (Share.right q, qs.1), bounds, (xr, (yr, (at, (i, tt)))), (mut_vals xr, (mut_vals yr, (index ∷ [], (vint w64 i ∷ [], tt))))), tt) in
    use1 𝓛 (raw (Lend.pre z)) (id⊢ 𝓤 _) $ calls_at ! (framed 𝓤 H 𝓜 𝓣) Lend met z (and_then ! (get ! refl) (and_then ! (get ! refl) (and_then ! (get ! refl) (and_then ! (get ! refl) (no_more !))))) (λ u.
    use1 𝓛 (later (some (λ (x : MutBor X.Denot × MutBor Y.Denot). ((‵ (flft κ (Share.right q)) ⊛ ‵ others) ⊛ ‵ ((PairOf A B κ).own_val x (u ∷ []))) ⊛ raw (ensured 𝓛 (g.ended X Y) (g.clauses X Y 𝓛 𝓜.mem 𝓡.returns) z.0.0 z.0.3 tt x)))) (id⊢ 𝓤 _) $ await ! tt $ pick ! (λ x. split ! $ move ! (1 ∷ []) $
    let δx = x.0.ghost_name in let δy = x.1.ghost_name in let Vals : Type 0 = (get_or xs i None ≡ Some x.0.now) × (get_or ys i None ≡ Some x.1.now) in
    let put_x : X.Denot → CA.Denot = λ w. with_cells rx (slice_set xs i (Some w)) in let put_y : Y.Denot → CB.Denot = λ w. with_cells ry (slice_set ys i (Some w)) in let put : X.Denot → Y.Denot → W.Denot = λ w w'. with_pair v i (w, w') in
    use1 𝓛 (‵ (fsep (follows CA A δ δx put_x) (follows CB B δ' δy put_y)) ⊛ raw (fact 𝓤 Vals)) (ex_e 𝓤 _ (λ ws. snd∗ 𝓤 (sem 𝓛 (lasts (g.ended X Y) z.0.0 z.0.3 ws)) _)) $ split ! $ move ! (1 ∷ []) $ heard ! _ (λ vals. fsplit ! $
    -- [what the columns follow; the tokens with the result; the two rights; the open borrow; the rest; obs; auth]
    move ! (5 ∷ 7 ∷ 8 ∷ 3 ∷ 4 ∷ 0 ∷ 1 ∷ 6 ∷ []) $ group ! 8 $ use1 𝓛 (later (‵ (flft κ (Share.left q)) ⊛ ‵ (follows_both W A B γ δx δy put)))
    (closes_both 𝓛 (mem W) (mem CA) (mem CB) (mem A) (mem B) put_x put_y put κ (Share.left q) b o b oA b oB γ δ δ' δx δy
    (mean 𝓛 (Rest A B LA LB 𝓛 b o d)) (λ w w'. shut A B LA LB 𝓛 b o (put w w') (written A B d i w w') (written_known A B v d i w w' lt known)) n (W.coded.code v) (W.coded.code v)) $ await ! tt $ split ! $
    -- [half of κ's token; what self follows; the tokens with the result]
    move ! (2 ∷ []) $ split ! $ split ! $ move ! (3 ∷ 0 ∷ []) $ use2 𝓛 (‵ (flft κ q)) (𝓛.lfts.lft_join κ q) $ move ! (2 ∷ []) $
    peeks ! (PairOf A B κ) _ (shows 𝓛 (PairOf A B κ)) x (u ∷ []) (λ is. let told_x = mut_Tells (named 0) κ A x.0 is.0.0 is.1.1.0 in let told_y = mut_Tells (named 0) κ B x.1 is.0.1.0 is.1.1.1.0 in
    let at_u : u ≡ pair_val x = ap only (is.1.0 ∙ (λ j. vstruct (of_list (told_x j ++ (told_y j ++ []))) ∷ [])) in
    rewrite ! 0 (λ (w : Val). ‵ ((PairOf A B κ).own_val x (w ∷ []))) at_u refl $ lands_as ! at_u refl (tt, (tt, (tt, tt))) $ returns ! (look_at ! 0 refl) $ free_all ! refl $
    -- [the result; the token of κ; the others; what self follows]
    move ! (1 ∷ 2 ∷ []) $ join ! $ spent ! 2 $ tells ! (slice_get v.pairs i ≡ Some (x.0.now, x.1.now))
    (pair_is xs ys d.len known.1.0 v known.0 i x.0.now x.1.now (front_taken xs d.len known.1.0.firsts_front i in_row x.0.now vals.0) (front_taken ys d.len known.1.0.seconds_front i in_row x.1.now vals.1)) $
    move ! (4 ∷ 0 ∷ []) $ join ! $ move ! (2 ∷ 1 ∷ 3 ∷ 0 ∷ []) $ by ! (leaves 𝓛 En hs c y (pair_val x) x (tt, (tt, tt)) (tt, (tt, tt))))))))))))))))
