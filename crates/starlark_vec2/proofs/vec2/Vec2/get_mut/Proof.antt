-- `get_mut` meets its contract. The borrow of the struct stays open while each column is lent to a call, and is closed
-- by what both end as. If the first column has no item, both are given up, and it is closed unchanged. Assumes `Logic`.
use Rattle.starlark_columns.proofs.LogicNames.{ !, follows_by, both_if_by, Contract, Lft, List, MutBor, MutRef, RattleType, SProp, Share, Some-of, Val, [], a_type, addr, after, ages, agg, alloc_all, and_then, ap, arith, at_ret, await, bor_new_deep, both_by, by, by_variants, calls_at, drop, ensured, enter, env, ex_e, exec, fact, fauth, feq_i, feq_l, first, fjoin, fjoin3, fld, flft, follows, follows_both, follows_if, fpack, framed, free_all, fres, fsep, fsplit3, ftrue, get, get_in, get_or, get_tag, ghost_name_of, group, heard, id⊢, in_variant, inl, inr, inst_fn, items_of, join, keep, lands_as, lasts, later, layouts, leaves, length, lit, lit<, live, load, look_at, mem, move, mut_Tells, mut_vals, name_new, named, no_more, none_of, nothing, of_list, of_opd, only, open_ref, option_copied_mut, owned, owns, param, param_laws, pass_all, pick, proved, qed, raw, refl, returns, rewrite, sem, sets, sets_last, slice_get, slice_get_within, slice_set, snd∗, some, split, split3, stop, subst, suc-ne-zero, sym, tables, through, triple_of, types_at, uint_Makes, uint_Tells, uint_vals, use0, use1, use2, usize, vcons, vint, vnil, vptr, vrt, w64, walk_of, whole, ‵, ℕ, ◌$◌, ◌+◌, ◌<◌, ◌^◌, ◌∙◌, ◌∵◌, ◌∷◌, ◌≡◌, ◌⊑◌, ◌⊛◌, tells, spent, drops, drops_go, look_in, sub, follows_said, after₂, name_done, followed₂, mean, ◌++◌, fpick, peeks, shows, fsplit}
use Rattle.starlark_vec2.proofs.ColumnNames.{At, Option, Some, None, with_cells, words, words_good, spot_made, front_filled, front_taken, column, with_pair, lends_both_if, PairList}
use base.Share
use Rattle.core.specs.contracts.option.Option as OP
use Rattle.starlark_vec2.proofs.TwoLoans.{closes_both}
use Rattle.std.specs.Option.{option_zip}
use Rattle.starlark_vec2.proofs.Pairs.{slice_get-zip}
use Rattle.starlark_vec2.proofs.TwoColumns.{len_is, pair_is}
use Rattle.starlark_vec2.proofs.Vec2Open.{V, Held, held, fields_value, Rest, Cuts, firsts_offset, seconds_offset, cut, shut, at_behind, at_front, written, written_known}
use Rattle.starlark_vec2.proofs.LentInOption.{either, in_none, given_up, as_tuple, PairOf, pair_val}
use Rattle.starlark_vec2.specs.contracts.vec2.get_mut.lend_front as g
use Rattle.starlark_vec2.specs.contracts.vec2.get_mut.lend_behind_if as h
use Rattle.starlark_vec2.proofs.vec2.get_mut as its
use Rattle.starlark_vec2.specs.contracts.vec2.Vec2.get_mut as contract
use Rattle.starlark_vec2.proofs.vec2.Vec2.get_mut as routine

pub get_mut_spec : {M : Type 1} → routine.Statement.statement M
unfolding both_by follows_by both_if_by
get_mut_spec 𝓤 𝓛 𝓜 𝓡 wired X Y LX LY =
    let H = 𝓛.H in let 𝓣 = tables 𝓤 H 𝓜 𝓡 𝓡.env in let En = contract.ended X Y in let hs = drops En in let inst = layouts (a_type ∷ a_type ∷ []) (X, (Y, tt)) in let fn = inst_fn inst routine.Code.function in
    let c = contract.clauses X Y 𝓛 𝓜.mem 𝓡.returns in let A : RattleType = param 0 X in let B : RattleType = param 1 Y in let W : RattleType = V A B in let CA = column A in let CB = column B in let LA = param_laws 0 X LX in let LB = param_laws 1 Y LY in
    let Looks : Contract 𝓤 = triple_of 𝓛 (h.signature X Y) (h.spec X Y 𝓛 𝓜.mem 𝓡.returns) in let looks = its.lend_behind_if.Met.met 𝓤 𝓛 𝓜 𝓡 (routine.Code.calls-starlark_vec2::vec2::get_mut::lend_behind_if 𝓡.env wired) X Y LX LY in
    let Lends : Contract 𝓤 = triple_of 𝓛 (g.signature Y) (g.spec Y 𝓛 𝓜.mem 𝓡.returns) in let lends = its.lend_front.Met.met 𝓤 𝓛 𝓜 𝓡 (routine.Code.calls-starlark_vec2::vec2::get_mut::lend_front 𝓡.env wired) Y LY in
    proved 𝓛 En hs c 𝓜 𝓡 (drops_go 𝓛 En (λ κs x f. refl, (λ κs x f. refl, tt))) (contract.Key.name inst) fn (routine.Code.unfolded 𝓤 H 𝓜 𝓡 wired (X, (Y, tt)))
    (λ κs. (mut_vals, (uint_vals w64, tt))) (λ κs. (mut_Tells (named 0) κs.0 W, (uint_Tells w64, tt))) (λ κs qs bounds a gh are.
    let κ : Lft = κs.0 in let q : Share = qs.0 in let κA : Lft = κs.1.0 in let qA : Share = qs.1.0 in let κB : Lft = κs.1.1.0 in let qB : Share = qs.1.1.0 in let i : ℕ = a.1.0 in let fi : i < 2 ^ 64 = are.1.0.1 in
    let r : MutBor (PairList X.Denot Y.Denot) = a.0 in let b : ℕ = r.ref_ptr.0 in let o : ℕ = r.ref_ptr.1 in let v = r.now in let γ = r.ghost_name in
    let y : (walk_of 𝓛 En hs c).Ghost = ((κs, qs, bounds, a, (mut_vals r, (vint w64 i ∷ [], tt))), gh) in let Post : Val → SProp 𝓤 = (walk_of 𝓛 En hs c).post y in
    let Seen : RattleType = OP.the_row (MutRef (named 0) κ A) in let Out : RattleType = OP.the_row (PairOf A B κ) in let put : X.Denot → Y.Denot → W.Denot = λ w w'. with_pair v i (w, w') in
    qed 𝓛 (((‵ (flft κ q) ⊛ ‵ (flft κA qA) ⊛ ‵ (flft κB qB) ⊛ ‵ ftrue) ⊛ ‵ (owns (types_at En.signature.params κs) a y.0.4)) ∷ raw (fact 𝓤 (κA ⊑ X.lives)) ∷ raw (fact 𝓤 (κB ⊑ Y.lives)) ∷ ‵ ftrue ∷ []) ∵
    move ! (1 ∷ 2 ∷ []) $ heard ! _ (λ la. heard ! _ (λ lb. split ! $ split3 ! $ move ! (2 ∷ []) $ split ! $ move ! (4 ∷ []) $ fsplit3 ! $ keep ! (5 ∷ 6 ∷ 3 ∷ 0 ∷ []) $
    -- [the tokens of κ, κA, κB; self]
    enter ! 𝓣.C 𝓣.Λ fn (vptr b o ∷ vint w64 i ∷ []) Post $ alloc_all ! (λ l. let Ev = env fn.locals l in pass_all ! refl ((tt, tt), ((tt, record { fits = fi }), tt)) $
    -- half of κ's token opens the struct, and half goes into the calls
    use1 𝓛 (‵ (flft κ (Share.left q)) ⊛ ‵ (flft κ (Share.right q))) (𝓛.lfts.lft_split κ q) $ split ! $ move ! (4 ∷ []) $ fsplit3 ! $ drop ! $ open_ref ! tt (mem W) {b = b} {o = o} $
    use1 𝓛 (some (Held A B LA LB 𝓛 b o v)) (held A B LA LB 𝓛 b o v) $ pick ! (λ f. split ! $
    let d = f.0 in let known = f.2 in let told = f.3 in let rx = d.firsts in let ry = d.seconds in let xs = rx.cells in let ys = ry.cells in let oA = o + firsts_offset A B in let oB = o + seconds_offset A B in
    let at = d.spot in let index : Val = words at.address.at at.count in
    -- the spot and the length are read from memory
    sets ! (of_opd ! (load ! (through ! refl (fld ! refl (stop !))) (look_in ! 0 (sub ! 3 refl (whole !))))) refl (words_good at.address.at at.count told.1) $
    sets ! (of_opd ! (load ! (through ! refl (fld ! refl (stop !))) (look_in ! 0 (sub ! 2 refl (whole !))))) refl (tt, record { fits = told.0 }) $ sets ! (addr ! (through ! refl (fld ! refl (stop !)))) refl (tt, tt) $
    use2 𝓛 (Cuts A B LA LB 𝓛 b o d) (cut A B LA LB 𝓛 b o d (fields_value A B d f.1)) $ split3 ! $
    -- [the columns; the rest; the open borrow; obs; auth; half of κ's token; those of κA, κB]
    name_new ! tt (CA.coded.code rx) (λ δ. move ! (2 ∷ 1 ∷ []) $ fjoin ! $ fpack ! CA.Denot (λ z. fsep ((mem CA).own_at z b oA) (fauth δ (CA.coded.code z))) rx $
    name_new ! tt (CB.coded.code ry) (λ δ'. move ! (4 ∷ 1 ∷ []) $ fjoin ! $ fpack ! CB.Denot (λ z. fsep ((mem CB).own_at z b oB) (fauth δ' (CB.coded.code z))) ry $
    move ! (5 ∷ []) $ ages ! (λ n. move ! (1 ∷ []) $ bor_new_deep ! tt n κ $ move ! (4 ∷ []) $ bor_new_deep ! tt n κ $
    -- [the first borrow and its right; the second and its; the open borrow; obs δ'; obs δ; the rest; obs; auth; the other half;
    -- the tokens of κA, κB]
    let xr : MutBor CA.Denot = record { ref_ptr = (b, oA); ghost_name = δ; now = rx } in let yr : MutBor CB.Denot = record { ref_ptr = (b, oB); ghost_name = δ'; now = ry } in
    let put_x : X.Denot → CA.Denot = λ w. with_cells rx (slice_set xs i (Some w)) in let put_y : Y.Denot → CB.Denot = λ w. with_cells ry (slice_set ys i (Some w)) in
    move ! (6 ∷ 0 ∷ []) $ feq_i ! (List Val) (mut_vals xr) (mut_vals xr) refl $ fjoin3 ! $ move ! (5 ∷ 2 ∷ []) $ feq_i ! (List Val) (mut_vals yr) (mut_vals yr) refl $ fjoin3 ! $
    nothing ! $ owned ! usize _ (uint_Makes 𝓛 w64) i _ (refl, fi) $ fjoin ! $ owned ! usize _ (uint_Makes 𝓛 w64) d.len _ (refl, told.0) $ fjoin ! $ use0 𝓛 (‵ ((At B).own_val at (index ∷ []))) (spot_made B 𝓛 at told.1) $ fjoin ! $ move ! (2 ∷ 0 ∷ []) $ fjoin ! $
    nothing ! $ move ! (11 ∷ 0 ∷ []) $ join ! $ move ! (10 ∷ 0 ∷ []) $ join ! $ move ! (9 ∷ 0 ∷ []) $ join ! $ join ! $
    tells ! _ known.1.0.firsts_front $ tells ! _ (at_behind A B v d known told) $ tells ! _ lb $ tells ! _ la $ group ! 4 $ move ! (1 ∷ 0 ∷ []) $ join ! $
    let z1 : Looks.Ghost = ((κs, (Share.right q, qs.1), (bounds.0, tt), (xr, (at, (d.len, (i, tt)))), (mut_vals xr, (index ∷ [], (vint w64 d.len ∷ [], (vint w64 i ∷ [], tt))))), tt) in
    use1 𝓛 (raw (Looks.pre z1)) (id⊢ 𝓤 _) $ calls_at ! (framed 𝓤 H 𝓜 𝓣) Looks looks z1 (and_then ! (get ! refl) (and_then ! (get ! refl) (and_then ! (get ! refl) (and_then ! (get ! refl) (no_more !))))) (λ u.
    use1 𝓛 (later (some (λ (s : Option (MutBor X.Denot)). ((‵ (flft κ (Share.right q)) ⊛ ‵ (flft κA qA) ⊛ ‵ (flft κB qB) ⊛ ‵ ftrue) ⊛ ‵ (Seen.own_val s (u ∷ []))) ⊛ raw (ensured 𝓛 (h.ended X Y) (h.clauses X Y 𝓛 𝓜.mem 𝓡.returns) z1.0.0 z1.0.3 tt s)))) (id⊢ 𝓤 _) $ await ! tt $ pick ! (λ s. split ! $ move ! (1 ∷ []) $
    let Follows = λ (t : Option (MutBor X.Denot)). ‵ (follows_if CA A δ (ghost_name_of t) put_x rx) in let Found : Type 0 = slice_get (items_of xs) i ≡ option_copied_mut s in
    use1 𝓛 (Follows s ⊛ raw (fact 𝓤 Found)) (ex_e 𝓤 _ (λ ws. snd∗ 𝓤 (sem 𝓛 (lasts (h.ended X Y) z1.0.0 z1.0.3 ws)) _)) $ split ! $
    move ! (1 ∷ []) $ heard ! _ (λ found. move ! (1 ∷ []) $ split ! $ split3 ! $ move ! (2 ∷ []) $ split ! $ move ! (1 ∷ []) $ drop ! $ move ! (3 ∷ 1 ∷ 2 ∷ 4 ∷ 5 ∷ 6 ∷ 7 ∷ 8 ∷ 9 ∷ 10 ∷ 11 ∷ []) $
    -- [what the call gave; half of κ's token; that of κA; what the first column follows; the second; the two rights; the open
    -- borrow; the rest; obs; auth; the token of κB]
    elim (either s) [
      | inl w ↦
          let x : MutBor X.Denot = w.0 in let at_x : slice_get (items_of xs) i ≡ Some x.now = found ∙ ap option_copied_mut w.1 in
          let in_row : i < d.len = omega (arith, slice_get_within (items_of xs) i x.now at_x, known.1.0.firsts_front.count) in
          let lt : i < length v.pairs = omega (arith, in_row, len_is xs ys d.len known.1.0 v known.0) in
          rewrite ! 0 (λ (t : Option (MutBor X.Denot)). ‵ (Seen.own_val t (u ∷ []))) w.1 refl $ rewrite ! 3 Follows w.1 refl $
          fpick ! (λ us. fsplit ! $ feq_l ! (λ e. fpick ! (λ vss. fsplit ! $ feq_l ! (λ f. fsplit ! $ peeks ! (MutRef (named 0) κ A) _ (shows 𝓛 (MutRef (named 0) κ A)) x vss.0 (λ is. let got = mut_Tells (named 0) κ A x vss.0 is in
          let at_u : u ≡ live 1 (vcons (vptr x.ref_ptr.0 x.ref_ptr.1) vnil) = ap only e ∙ ap (λ ws. live 1 (of_list ws)) (f ∙ ap (λ ws. ws ++ []) got) in
          rewrite ! 0 (λ (ws : List Val). ‵ ((MutRef (named 0) κ A).own_val x ws)) got refl $ move ! (1 ∷ []) $ drop ! $
          move ! (3 ∷ []) $ use1 𝓛 (‵ (follows CA A δ x.ghost_name put_x)) (id⊢ 𝓤 _) $ move ! (1 ∷ 2 ∷ 3 ∷ 0 ∷ []) $
          lands_as ! at_u refl (tt, (record { fits = lit< tt }, (tt, tt))) $ first ! $ by_variants ! 24 (whole !) (get_tag ! (vrt ! refl (fld ! refl (stop !))) (whole !)) tt (
            (λ _. sets ! (of_opd ! (get_in ! (vrt ! refl (fld ! refl (stop !))) (in_variant ! 1 0 refl refl (whole !)))) refl (tt, tt) $
                sets ! (addr ! (through ! refl (stop !))) refl (tt, tt) $ sets ! (addr ! (through ! refl (fld ! refl (stop !)))) refl (tt, tt) $
                let z2 : Lends.Ghost = (((κ, (κB, tt)), (Share.right q, (qB, tt)), (bounds.1.0, tt), (yr, (at, (i, tt))), (mut_vals yr, (index ∷ [], (vint w64 i ∷ [], tt)))), tt) in
                nothing ! $ owned ! usize _ (uint_Makes 𝓛 w64) i _ (refl, fi) $ fjoin ! $ use0 𝓛 (‵ ((At B).own_val at (index ∷ []))) (spot_made B 𝓛 at told.1) $ fjoin ! $ move ! (5 ∷ 0 ∷ []) $ fjoin ! $
                nothing ! $ move ! (12 ∷ 0 ∷ []) $ join ! $ move ! (3 ∷ 0 ∷ []) $ join ! $ join ! $
                tells ! _ (front_filled ys d.len known.1.0.seconds_front i in_row) $ tells ! _ (at_front A B v d known) $ tells ! _ lb $ group ! 3 $ move ! (1 ∷ 0 ∷ []) $ join ! $
                use1 𝓛 (raw (Lends.pre z2)) (id⊢ 𝓤 _) $ calls_at ! (framed 𝓤 H 𝓜 𝓣) Lends lends z2 (and_then ! (get ! refl) (and_then ! (get ! refl) (and_then ! (get ! refl) (no_more !)))) (λ t.
                use1 𝓛 (later (some (λ (x' : MutBor Y.Denot). ((‵ (flft κ (Share.right q)) ⊛ ‵ (flft κB qB) ⊛ ‵ ftrue) ⊛ ‵ ((MutRef (named 0) κ B).own_val x' (t ∷ []))) ⊛ raw (ensured 𝓛 (g.ended Y) (g.clauses Y 𝓛 𝓜.mem 𝓡.returns) z2.0.0 z2.0.3 tt x')))) (id⊢ 𝓤 _) $ await ! tt $ pick ! (λ x'. split ! $ move ! (1 ∷ []) $
                let Value : Type 0 = get_or ys i None ≡ Some x'.now in
                use1 𝓛 (‵ (follows CB B δ' x'.ghost_name put_y) ⊛ raw (fact 𝓤 Value)) (ex_e 𝓤 _ (λ ws. snd∗ 𝓤 (sem 𝓛 (lasts (g.ended Y) z2.0.0 z2.0.3 ws)) _)) $ split ! $
                move ! (1 ∷ []) $ heard ! _ (λ value. move ! (1 ∷ []) $ split ! $ split3 ! $ move ! (3 ∷ []) $ fsplit3 ! $ feq_l ! (λ at_t. lands_as ! (ap only at_t) refl (tt, tt) $ feq_i ! (List Val) (mut_vals x') (mut_vals x') refl $ fjoin3 ! $
                sets ! (agg ! (and_then ! (get ! refl) (and_then ! (get ! refl) (no_more !)))) refl (tt, (tt, (tt, tt))) $
                sets_last ! (agg ! (and_then ! (lit ! tt) (and_then ! (get ! refl) (no_more !)))) refl (tt, (record { fits = lit< tt }, ((tt, (tt, tt)), tt))) $ exec ! 𝓣.C 𝓣.Λ Ev (after 5 fn.body) (at_ret Ev Post) $
                -- [the second reference; half of κ's token; that of κB; nothing; what the second column follows; the first reference;
                -- the token of κA; what the first follows; the two rights; the open borrow; the rest; obs; auth]
                move ! (10 ∷ 12 ∷ 13 ∷ 8 ∷ 9 ∷ 7 ∷ 4 ∷ 11 ∷ []) $ group ! 8 $ use1 𝓛 (later (‵ (flft κ (Share.left q)) ⊛ ‵ (follows_both W A B γ x.ghost_name x'.ghost_name put)))
                (closes_both 𝓛 (mem W) (mem CA) (mem CB) (mem A) (mem B) put_x put_y put κ (Share.left q) b o b oA b oB γ δ δ' x.ghost_name x'.ghost_name
                (mean 𝓛 (Rest A B LA LB 𝓛 b o d)) (λ w w'. shut A B LA LB 𝓛 b o (put w w') (written A B d i w w') (written_known A B v d i w w' lt known)) n (W.coded.code v) (W.coded.code v)) $ await ! tt $ split ! $
                move ! (0 ∷ 3 ∷ []) $ use2 𝓛 (‵ (flft κ q)) (𝓛.lfts.lft_join κ q) $ sets ! (of_opd ! (get ! refl)) refl (tt, (record { fits = lit< tt }, ((tt, (tt, tt)), tt))) $
                returns ! (look_at ! 0 refl) $ free_all ! refl $ keep ! (5 ∷ 2 ∷ 1 ∷ 0 ∷ 6 ∷ 3 ∷ []) $
                -- [both references; what self follows; the tokens of κ, κA, κB]
                let both : Val = pair_val (x, x') in let out : Out.Denot = Some (x, x') in let Told : Type 0 = Some (x.now, x'.now) ≡ slice_get v.pairs i in
                use2 𝓛 (‵ ((PairOf A B κ).own_val (x, x') (both ∷ []))) (as_tuple 𝓛 (MutRef (named 0) κ A) (MutRef (named 0) κ B) x x' (vptr x.ref_ptr.0 x.ref_ptr.1) (vptr x'.ref_ptr.0 x'.ref_ptr.1)) $
                use1 𝓛 (‵ (Out.own_val out (live 1 (of_list (both ∷ [])) ∷ []))) (Some-of 𝓛 (PairOf A B κ) (x, x') both) $
                move ! (1 ∷ []) $ use1 𝓛 (‵ (lends_both_if A B r i out)) (id⊢ 𝓤 _) $
                nothing ! $ move ! (5 ∷ 0 ∷ []) $ join ! $ move ! (4 ∷ 0 ∷ []) $ join ! $ move ! (3 ∷ 0 ∷ []) $ join ! $ spent ! 2 $
                tells ! Told (sym (pair_is xs ys d.len known.1.0 v known.0 i x.now x'.now at_x (front_taken ys d.len known.1.0.seconds_front i in_row x'.now value))) $
                move ! (3 ∷ 0 ∷ []) $ join ! $ move ! (2 ∷ 1 ∷ 3 ∷ 0 ∷ []) $ by ! (leaves 𝓛 En hs c y (live 1 (of_list (both ∷ []))) out (tt, (tt, tt)) (tt, (tt, tt)))))))),
            ((λ e. absurd (suc-ne-zero 0 e)), tt),
          ))))))
      | inr w ↦
          rewrite ! 0 (λ (t : Option (MutBor X.Denot)). ‵ (Seen.own_val t (u ∷ []))) w refl $ rewrite ! 3 Follows w refl $
          use1 𝓛 (raw (fact 𝓤 (u ≡ live 0 vnil))) (in_none 𝓛 (MutRef (named 0) κ A) u) $ heard ! _ (λ at_u.
          move ! (2 ∷ []) $ use1 𝓛 (‵ (fres δ (CA.coded.code rx))) (id⊢ 𝓤 _) $ move ! (3 ∷ []) $ use1 𝓛 (later (‵ (fres δ' (CB.coded.code ry)))) (given_up 𝓛 CB (named 0) κ yr) $ await ! tt $
          -- [what the second column ends as; what the first does; half of κ's token; that of κA; the two rights; the open borrow;
          -- the rest; obs; auth; the token of κB]
          name_new ! tt (CA.coded.code rx) (λ γ₁. name_new ! tt (CB.coded.code ry) (λ γ₂.
          move ! (5 ∷ 3 ∷ []) $ use2 𝓛 (‵ (follows CA CA δ γ₁ (λ _. rx))) (follows_said 𝓛 CA δ γ₁ rx rx) $ move ! (4 ∷ 2 ∷ []) $ use2 𝓛 (‵ (follows CB CB δ' γ₂ (λ _. ry))) (follows_said 𝓛 CB δ' γ₂ ry ry) $
          -- [what δ' follows; what δ does; obs γ₂; obs γ₁; half of κ's token; ..]
          move ! (8 ∷ 10 ∷ 11 ∷ 6 ∷ 7 ∷ 1 ∷ 0 ∷ 9 ∷ []) $ group ! 8 $ use1 𝓛 (later (‵ (flft κ (Share.left q)) ⊛ ‵ (after₂ (mem W) (mem CA) (mem CB) γ γ₁ γ₂ (λ _ _. v))))
          (closes_both 𝓛 (mem W) (mem CA) (mem CB) (mem CA) (mem CB) (λ _. rx) (λ _. ry) (λ _ _. v) κ (Share.left q) b o b oA b oB γ δ δ' γ₁ γ₂
          (mean 𝓛 (Rest A B LA LB 𝓛 b o d)) (λ _ _. shut A B LA LB 𝓛 b o v d known) n (W.coded.code v) (W.coded.code v)) $ await ! tt $ split ! $
          move ! (2 ∷ []) $ name_done ! tt $ move ! (3 ∷ []) $ name_done ! tt $ move ! (0 ∷ 1 ∷ []) $ join ! $ move ! (0 ∷ 2 ∷ []) $ use2 𝓛 (‵ (fres γ (W.coded.code v))) (followed₂ 𝓛 (mem W) (mem CA) (mem CB) (λ _ _. v) γ γ₁ γ₂ rx ry) $
          move ! (1 ∷ 2 ∷ []) $ use2 𝓛 (‵ (flft κ q)) (𝓛.lfts.lft_join κ q) $
          -- [the token of κ; what self ends as; the tokens of κA, κB]
          lands_as ! at_u refl (tt, (record { fits = lit< tt }, tt)) $ first ! $ by_variants ! 16 (whole !) (get_tag ! (vrt ! refl (fld ! refl (stop !))) (whole !)) tt (
            (λ e. absurd (suc-ne-zero 0 (sym e))),
            (
              (λ _. sets_last ! (agg ! (and_then ! (lit ! tt) (no_more !))) refl (tt, (record { fits = lit< tt }, tt)) $
                  exec ! 𝓣.C 𝓣.Λ Ev (after 5 fn.body) (at_ret Ev Post) $ sets ! (of_opd ! (get ! refl)) refl (tt, (record { fits = lit< tt }, tt)) $ returns ! (look_at ! 0 refl) $ free_all ! refl $
                  let out : Out.Denot = None in let Told : Type 0 = None ≡ slice_get v.pairs i in
                  move ! (1 ∷ []) $ use1 𝓛 (‵ (lends_both_if A B r i out)) (id⊢ 𝓤 _) $ use0 𝓛 (‵ (Out.own_val out (live 0 (of_list []) ∷ []))) (none_of 𝓛 (PairOf A B κ)) $
                  nothing ! $ move ! (5 ∷ 0 ∷ []) $ join ! $ move ! (4 ∷ 0 ∷ []) $ join ! $ move ! (3 ∷ 0 ∷ []) $ join ! $ spent ! 2 $
                  tells ! Told (sym (subst (λ (m : PairList X.Denot Y.Denot). slice_get m.pairs i ≡ None) known.0 (slice_get-zip (items_of xs) (items_of ys) i ∙ ap (λ o. option_zip o (slice_get (items_of ys) i)) (found ∙ ap option_copied_mut w)))) $
                  move ! (4 ∷ 0 ∷ []) $ join ! $ move ! (2 ∷ 1 ∷ 3 ∷ 0 ∷ []) $ by ! (leaves 𝓛 En hs c y (live 0 (of_list [])) out (tt, (tt, tt)) (tt, (tt, tt)))),
              tt,
            ),
          ))))
    ])))))))))))
