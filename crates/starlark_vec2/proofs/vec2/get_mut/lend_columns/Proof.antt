-- `lend_columns` meets its contract by two calls, each of which says what its column ends as. Assumes `Logic`.
use Rattle.starlark_columns.proofs.LogicNames.{ !, Contract, IsFilled, Lft, List, MutBor, MutRef, None, RattleType, SProp, Share, Some, Val, [], a_type, addr, agg, alloc_all, and_then, ap, await, by, calls_at, ensured, enter, ex_e, fact, feq_i, feq_l, fjoin, fjoin3, flft, follows, framed, free_all, fsplit3, ftrue, get, get_or, group, heard, id⊢, inst_fn, join, keep, lands_as, lasts, later, layouts, leaves, look_at, move, mut_Tells, mut_vals, named, no_more, nothing, only, owned, owns, param, pass_all, pick, proved, qed, raw, refl, returns, sem, sets, slice_set, snd∗, some, split, split3, stop, tables, through, triple_of, types_at, uint_Makes, uint_Tells, uint_vals, use0, use1, use2, usize, vint, vptr, w64, walk_of, ‵, ℕ, ◌$◌, ◌<◌, ◌^◌, ◌∵◌, ◌∷◌, ◌≡◌, ◌⊑◌, ◌⊛◌, tells, spent, drops, drops_go}
use Rattle.starlark_vec2.proofs.ColumnNames.{At, IsBehind, Row, with_cells, words, words_good, spot_made, spot_told, column}
use Rattle.starlark_vec2.proofs.LentInOption.{as_tuple, PairOf, pair_val}
use Rattle.starlark_vec2.specs.contracts.vec2.get_mut.lend_behind as g
use Rattle.starlark_vec2.specs.contracts.vec2.get_mut.lend_front as h
use Rattle.starlark_vec2.proofs.vec2.get_mut as its
use Rattle.starlark_vec2.specs.contracts.vec2.get_mut.lend_columns as contract
use Rattle.starlark_vec2.proofs.vec2.get_mut.lend_columns as routine

pub lend_columns_spec : {M : Type 1} → routine.Statement.statement M
lend_columns_spec 𝓤 𝓛 𝓜 𝓡 wired X Y LX LY =
    let H = 𝓛.H in let 𝓣 = tables 𝓤 H 𝓜 𝓡 𝓡.env in let En = contract.ended X Y in let hs = drops En in let inst = layouts (a_type ∷ a_type ∷ []) (X, (Y, tt)) in let fn = inst_fn inst routine.Code.function in
    let c = contract.clauses X Y 𝓛 𝓜.mem 𝓡.returns in let A : RattleType = param 0 X in let B : RattleType = param 1 Y in let CA = column A in let CB = column B in
    let Behind : Contract 𝓤 = triple_of 𝓛 (g.signature X Y) (g.spec X Y 𝓛 𝓜.mem 𝓡.returns) in let ga = its.lend_behind.Met.met 𝓤 𝓛 𝓜 𝓡 (routine.Code.calls-starlark_vec2::vec2::get_mut::lend_behind 𝓡.env wired) X Y LX LY in
    let Front : Contract 𝓤 = triple_of 𝓛 (h.signature Y) (h.spec Y 𝓛 𝓜.mem 𝓡.returns) in let gb = its.lend_front.Met.met 𝓤 𝓛 𝓜 𝓡 (routine.Code.calls-starlark_vec2::vec2::get_mut::lend_front 𝓡.env wired) Y LY in
    proved 𝓛 En hs c 𝓜 𝓡 (drops_go 𝓛 En (λ κs x f. refl, (λ κs x f. refl, (λ κs x f. refl, (λ κs x f. refl, tt))))) (contract.Key.name inst) fn (routine.Code.unfolded 𝓤 H 𝓜 𝓡 wired (X, (Y, tt)))
    (λ κs. (mut_vals, (mut_vals, ((λ x. words x.address.at x.count ∷ []), (uint_vals w64, tt))))) (λ κs. (mut_Tells (named 0) κs.0 CA, (mut_Tells (named 0) κs.0 CB, ((λ x vs is. (spot_told B x vs is).0), (uint_Tells w64, tt))))) (λ κs qs bounds a gh are.
    let κ : Lft = κs.0 in let q : Share = qs.0 in let κA : Lft = κs.1.0 in let qA : Share = qs.1.0 in let κB : Lft = κs.1.1.0 in let qB : Share = qs.1.1.0 in
    let r : MutBor (Row X.Denot) = a.0 in let s : MutBor (Row Y.Denot) = a.1.0 in let t = a.1.1.0 in let i : ℕ = a.1.1.1.0 in let index : Val = words t.address.at t.count in
    let ft : t.count < 2 ^ 64 = (spot_told B t _ are.1.1.0).1 in let fi : i < 2 ^ 64 = are.1.1.1.0.1 in
    let z : (walk_of 𝓛 En hs c).Ghost = ((κs, qs, bounds, a, (mut_vals r, (mut_vals s, (index ∷ [], (vint w64 i ∷ [], tt))))), gh) in let Post : Val → SProp 𝓤 = (walk_of 𝓛 En hs c).post z in
    let za : Behind.Ghost = ((κs, qs, (bounds.0, tt), (r, (t, (i, tt))), (mut_vals r, (index ∷ [], (vint w64 i ∷ [], tt)))), tt) in
    let zb : Front.Ghost = (((κ, (κB, tt)), (q, (qB, tt)), (bounds.1.0, tt), (s, (t, (i, tt))), (mut_vals s, (index ∷ [], (vint w64 i ∷ [], tt)))), tt) in
    qed 𝓛 (((‵ (flft κ q) ⊛ ‵ (flft κA qA) ⊛ ‵ (flft κB qB) ⊛ ‵ ftrue) ⊛ ‵ (owns (types_at En.signature.params κs) a z.0.4))
    ∷ raw (fact 𝓤 (κA ⊑ X.lives)) ∷ raw (fact 𝓤 (κB ⊑ Y.lives)) ∷ raw (fact 𝓤 (IsBehind B A t r.now.at)) ∷ raw (fact 𝓤 (t.address.at ≡ s.now.at)) ∷ raw (fact 𝓤 (IsFilled r.now.cells i)) ∷ raw (fact 𝓤 (IsFilled s.now.cells i)) ∷ []) ∵
    move ! (1 ∷ 2 ∷ 3 ∷ 4 ∷ 5 ∷ 6 ∷ []) $ heard ! _ (λ la. heard ! _ (λ lb. heard ! _ (λ lies. heard ! _ (λ lies'. heard ! _ (λ ir. heard ! _ (λ is.
    split ! $ split3 ! $ move ! (2 ∷ []) $ split ! $ move ! (4 ∷ []) $ fsplit3 ! $ keep ! (5 ∷ 6 ∷ 3 ∷ 0 ∷ 1 ∷ []) $
    -- [the tokens of κ, κA, κB; both columns]
    enter ! 𝓣.C 𝓣.Λ fn (vptr r.ref_ptr.0 r.ref_ptr.1 ∷ vptr s.ref_ptr.0 s.ref_ptr.1 ∷ index ∷ vint w64 i ∷ []) Post $
    alloc_all ! (λ l. pass_all ! refl ((tt, tt), ((tt, tt), (words_good t.address.at t.count ft, ((tt, record { fits = fi }), tt)))) $
    -- &mut *firsts, and the first call
    sets ! (addr ! (through ! refl (stop !))) refl (tt, tt) $ nothing ! $ owned ! usize _ (uint_Makes 𝓛 w64) i _ (refl, fi) $ fjoin ! $ use0 𝓛 (‵ ((At B).own_val t (index ∷ []))) (spot_made B 𝓛 t ft) $ fjoin ! $ move ! (4 ∷ 0 ∷ []) $ fjoin ! $
    nothing ! $ move ! (4 ∷ 0 ∷ []) $ join ! $ move ! (3 ∷ 0 ∷ []) $ join ! $ move ! (2 ∷ 0 ∷ []) $ join ! $ join ! $
    tells ! _ ir $ tells ! _ lies $ tells ! _ lb $ tells ! _ la $ group ! 4 $ move ! (1 ∷ 0 ∷ []) $ join ! $
    use1 𝓛 (raw (Behind.pre za)) (id⊢ 𝓤 _) $ calls_at ! (framed 𝓤 H 𝓜 𝓣) Behind ga za (and_then ! (get ! refl) (and_then ! (get ! refl) (and_then ! (get ! refl) (no_more !)))) (λ u.
    use1 𝓛 (later (some (λ (x : MutBor X.Denot). ((‵ (flft κ q) ⊛ ‵ (flft κA qA) ⊛ ‵ (flft κB qB) ⊛ ‵ ftrue) ⊛ ‵ ((MutRef (named 0) κ A).own_val x (u ∷ []))) ⊛ raw (ensured 𝓛 (g.ended X Y) (g.clauses X Y 𝓛 𝓜.mem 𝓡.returns) za.0.0 za.0.3 tt x)))) (id⊢ 𝓤 _) $ await ! tt $ pick ! (λ x. split ! $ move ! (1 ∷ []) $
    let put_x : X.Denot → CA.Denot = λ w. with_cells r.now (slice_set r.now.cells i (Some w)) in let Value : Type 0 = get_or r.now.cells i None ≡ Some x.now in
    use1 𝓛 (‵ (follows CA A r.ghost_name x.ghost_name put_x) ⊛ raw (fact 𝓤 Value)) (ex_e 𝓤 _ (λ ws. snd∗ 𝓤 (sem 𝓛 (lasts (g.ended X Y) za.0.0 za.0.3 ws)) _)) $ split ! $
    move ! (1 ∷ []) $ heard ! _ (λ ea. move ! (1 ∷ []) $ split ! $ move ! (1 ∷ []) $ fsplit3 ! $ feq_l ! (λ at_x. lands_as ! (ap only at_x) refl (tt, tt) $
    feq_i ! (List Val) (mut_vals x) (mut_vals x) refl $ fjoin3 ! $ move ! (1 ∷ []) $ split3 ! $ move ! (2 ∷ []) $ split ! $ move ! (2 ∷ 3 ∷ 1 ∷ 4 ∷ 5 ∷ 0 ∷ []) $
    -- the second call: [the tokens of κ, κA; nothing; x; what firsts follows; the token of κB; seconds]
    sets ! (addr ! (through ! refl (stop !))) refl (tt, tt) $ nothing ! $ owned ! usize _ (uint_Makes 𝓛 w64) i _ (refl, fi) $ fjoin ! $ use0 𝓛 (‵ ((At B).own_val t (index ∷ []))) (spot_made B 𝓛 t ft) $ fjoin ! $ move ! (7 ∷ 0 ∷ []) $ fjoin ! $
    nothing ! $ move ! (7 ∷ 0 ∷ []) $ join ! $ move ! (2 ∷ 0 ∷ []) $ join ! $ join ! $
    tells ! _ is $ tells ! _ lies' $ tells ! _ lb $ group ! 3 $ move ! (1 ∷ 0 ∷ []) $ join ! $
    -- [what the call asks; the token of κA; nothing; x; what firsts follows]
    use1 𝓛 (raw (Front.pre zb)) (id⊢ 𝓤 _) $ calls_at ! (framed 𝓤 H 𝓜 𝓣) Front gb zb (and_then ! (get ! refl) (and_then ! (get ! refl) (and_then ! (get ! refl) (no_more !)))) (λ v.
    use1 𝓛 (later (some (λ (y : MutBor Y.Denot). ((‵ (flft κ q) ⊛ ‵ (flft κB qB) ⊛ ‵ ftrue) ⊛ ‵ ((MutRef (named 0) κ B).own_val y (v ∷ []))) ⊛ raw (ensured 𝓛 (h.ended Y) (h.clauses Y 𝓛 𝓜.mem 𝓡.returns) zb.0.0 zb.0.3 tt y)))) (id⊢ 𝓤 _) $ await ! tt $ pick ! (λ y. split ! $ move ! (1 ∷ []) $
    let put_y : Y.Denot → CB.Denot = λ w. with_cells s.now (slice_set s.now.cells i (Some w)) in let Value' : Type 0 = get_or s.now.cells i None ≡ Some y.now in
    use1 𝓛 (‵ (follows CB B s.ghost_name y.ghost_name put_y) ⊛ raw (fact 𝓤 Value')) (ex_e 𝓤 _ (λ ws. snd∗ 𝓤 (sem 𝓛 (lasts (h.ended Y) zb.0.0 zb.0.3 ws)) _)) $ split ! $
    move ! (1 ∷ []) $ heard ! _ (λ eb. move ! (1 ∷ []) $ split ! $ move ! (1 ∷ []) $ fsplit3 ! $ feq_l ! (λ at_y. lands_as ! (ap only at_y) refl (tt, tt) $
    feq_i ! (List Val) (mut_vals y) (mut_vals y) refl $ fjoin3 ! $ move ! (1 ∷ []) $ split3 ! $
    -- [the tokens of κ, κB; nothing; y; what seconds follows; the token of κA; nothing; x; what firsts follows]
    sets ! (addr ! (through ! refl (stop !))) refl (tt, tt) $ sets ! (addr ! (through ! refl (stop !))) refl (tt, tt) $
    sets ! (agg ! (and_then ! (get ! refl) (and_then ! (get ! refl) (no_more !)))) refl (tt, (tt, (tt, tt))) $ returns ! (look_at ! 0 refl) $ free_all ! refl $ keep ! (7 ∷ 3 ∷ 0 ∷ 5 ∷ 1 ∷ 8 ∷ 4 ∷ []) $
    -- [x; y; the tokens of κ, κA, κB; what firsts follows, and seconds]
    use2 𝓛 (‵ ((PairOf A B κ).own_val (x, y) (pair_val (x, y) ∷ []))) (as_tuple 𝓛 (MutRef (named 0) κ A) (MutRef (named 0) κ B) x y (vptr x.ref_ptr.0 x.ref_ptr.1) (vptr y.ref_ptr.0 y.ref_ptr.1)) $
    nothing ! $ move ! (4 ∷ 0 ∷ []) $ join ! $ move ! (3 ∷ 0 ∷ []) $ join ! $ move ! (2 ∷ 0 ∷ []) $ join ! $
    spent ! 4 $ tells ! (Value × Value') (ea, eb) $ move ! (4 ∷ 5 ∷ []) $ fjoin ! $ join ! $ move ! (2 ∷ 1 ∷ 3 ∷ 0 ∷ []) $ by ! (leaves 𝓛 En hs c z (pair_val (x, y)) (x, y) (tt, (tt, (tt, (tt, tt)))) (tt, (tt, (tt, (tt, tt)))))))))))))))))))))
