-- `lend_placed` meets its contract, at any types: if there is a slot, the map is lent for good to the call that shows the
-- pair; otherwise the map is given up. Assumes `Logic`.
use Rattle.starlark_columns.proofs.LogicNames.{◌≡◌, refl, sym, ◌∙◌, inl, inr, ℕ, suc-ne-zero, List, [], ◌∷◌, ◌++◌, lit<, a_type, dcons, dnil, named, w64, inst_fn, Val, vint, vstruct, vcons, vnil, of_list, SProp, id⊢, ex_e, snd∗, Lft, Share, Item, fat, full_share, ftrue, flft, fres, WpFn, sem, live, vrt, in_variant, by_variants, ◌⊑◌, fact, tables, ‵, raw, ◌⊛◌, some, given, later, prop, at_ret, ◌$◌, ◌∵◌, !, qed, by, move, keep, drop, use1, split, split3, join, pick, learn, fsplit, fsplit3, fpick, feq_l, fjoin, await, rewrite, regoal, group, whole, agg, stop, fld, addr, lit, of_opd, and_then, no_more, first, exec, returns, enter, alloc_all, pass_all, free_all, look_at, get, get_in, get_tag, through, sets, sets_last, lands_as, env, sub, no, rest, RattleType, owns, usize, follows, param, bounded, layout, param_laws, uint_Makes, uint_Tells, Bor, MutBor, MutRef, ShrRef, mut_vals, mut_Tells, plain, types_at, nothing, owned, heard, peeks, shows, Tuple, tuple_laws, calls_at, ensured, lasts, triple_of, Contract, framed, walk_of, Goes-blank, Good, Ok-of, Err-of, and_tt, proved_at, leaves, Result, Ok, Err, IfOk, OnErr, true, is_some, result_laws, after, tells, spent, drops}
use prog.Wp.{spot_of}
use Rattle.starlark_unordered.specs.Lend.{lends_placed, LendsSlot}
use Rattle.starlark_unordered.specs.contracts.unordered_map.UnorderedMap.pair_at_mut as e
use Rattle.starlark_table.proofs.LentInResult.{given_up, so_rests, so_follows, in_ok_told, in_err, which}
use Rattle.starlark_unordered.proofs.ReferenceAndResult as L
use Rattle.starlark_unordered.proofs.ReferenceAndResult.{Some, lone_value, Table, item_in, with_value, Placed, placed_blank, place_laws, mut_laws, shr_laws, good_value}
use Rattle.starlark_unordered.proofs.unordered_map.UnorderedMap.pair_at_mut.Met as pair
use Rattle.starlark_unordered.specs.contracts.raw_entry.lend_placed as contract
use Rattle.starlark_unordered.proofs.raw_entry.lend_placed as routine

pub lend_placed_spec : {M : Type 1} → routine.Statement.statement M
lend_placed_spec 𝓤 𝓛 𝓜 𝓡 wired K V X LK LV LX E dE P dP G dG is_eq is_partial is_hash =
    let 𝓣 = tables 𝓤 𝓛.H 𝓜 𝓡 𝓡.env in let En = contract.ended K V X E dE P dP G dG in
    let inst = bounded (a_type ∷ a_type ∷ a_type ∷ []) (K, (V, (X, tt))) (dcons dE (dcons dP (dcons dG dnil))) in let fn = inst_fn inst routine.Code.function in let hs = drops En in
    let c = contract.clauses K V X E dE P dP G dG 𝓛 𝓜.mem 𝓡.returns in let K' : RattleType = param 0 K in let V' : RattleType = param 1 V in let X' : RattleType = param 2 X in let LX' = param_laws 2 X LX in
    let R : RattleType = L.U.the_row K' V' P G in let Slot : RattleType = L.RS.the_row usize X' in let Out : Type 0 = Result (Bor K.Denot × MutBor V.Denot) X.Denot in
    let Shows : Contract 𝓤 = triple_of 𝓛 (e.signature K V E dE P dP G dG) (e.spec K V E dE P dP G dG 𝓛 𝓜.mem 𝓡.returns) in
    let met = pair.met 𝓤 𝓛 𝓜 𝓡 (routine.Code.calls-starlark_unordered::unordered_map::UnorderedMap::pair_at_mut 𝓡.env wired) K V LK LV E dE P dP G dG is_eq is_partial is_hash in
    proved_at 𝓛 En hs c 𝓜 𝓡 (Goes-blank 𝓛 4 (plain (λ κs. Placed κs.0 R X')) no (λ κs. placed_blank κs.0 R X), tt) (contract.Key.name inst) fn (routine.Code.unfolded 𝓤 𝓛.H 𝓜 𝓡 wired (K, (V, (X, tt))) dE dP dG) (λ y are.
    let κs = y.0.0 in let qs = y.0.1 in let κ : Lft = κs.0 in let q : Share = qs.0 in let κK : Lft = κs.1.0 in let qK : Share = qs.1.0 in
    let κV : Lft = κs.1.1.0 in let qV : Share = qs.1.1.0 in let κX : Lft = κs.1.1.1.0 in let qX : Share = qs.1.1.1.0 in
    let r : MutBor R.Denot = y.0.3.0.0 in let p : Result ℕ X.Denot = y.0.3.0.1 in let vs : List Val = y.0.4.0 in let m = r.now in let γ = r.ghost_name in let Post : Val → SProp 𝓤 = (walk_of 𝓛 En hs c).post y in
    let Held : RattleType = MutRef (named 0) κ R in let Pair : RattleType = Tuple (ShrRef (named 0) κ K' ∷ MutRef (named 0) κ V' ∷ []) in
    let pair_laws = tuple_laws (ShrRef (named 0) κ K' ∷ MutRef (named 0) κ V' ∷ []) (shr_laws κ K' (param_laws 0 K LK), (mut_laws κ V' (param_laws 1 V LV), tt)) in
    let There : Type 0 = IfOk p (λ i. is_some (item_in m i) ≡ true) in let At : Val → Result ℕ X.Denot → Item 𝓤 = λ t h. ‵ (Slot.own_val h (t ∷ [])) in
    let Lends : Out → Item 𝓤 = λ out. ‵ (lends_placed K' V' (contract.K-Hash-whole K V X E dE P dP G dG) r p out) in
    let left = λ (v : Val) (out : Out). leaves 𝓛 En hs c y v out (rest ((Placed κ R X').exit no) (r, p), tt) (tt, tt) in
    qed 𝓛 (((‵ (flft κ q) ⊛ ‵ (flft κK qK) ⊛ ‵ (flft κV qV) ⊛ ‵ (flft κX qX) ⊛ ‵ ftrue) ⊛ ‵ (owns (types_at En.signature.params κs) y.0.3 y.0.4))
    ∷ raw (fact 𝓤 (κK ⊑ K.lives)) ∷ raw (fact 𝓤 (κV ⊑ V.lives)) ∷ raw (fact 𝓤 (κX ⊑ X.lives)) ∷ raw (fact 𝓤 There) ∷ []) ∵
    move ! (1 ∷ 2 ∷ 3 ∷ 4 ∷ []) $ heard ! _ (λ lK. heard ! _ (λ lV. heard ! _ (λ lX. heard ! There (λ there.
    split ! $ split3 ! $ move ! (2 ∷ []) $ split3 ! $ move ! (5 ∷ []) $ fsplit ! $ keep ! (0 ∷ 5 ∷ 6 ∷ 2 ∷ 3 ∷ 4 ∷ []) $
    fpick ! (λ uss. fsplit ! $ feq_l ! (λ at_v. fsplit3 ! $ move ! (2 ∷ []) $ drop ! $ peeks ! Held _ (shows 𝓛 Held) r uss.0 (λ is_r. move ! (1 ∷ []) $ peeks ! Slot _ (shows 𝓛 Slot) p uss.1.0 (λ is_p.
    let at_r = mut_Tells (named 0) κ R r uss.0 is_r in let lone = lone_value 𝓛 Slot (result_laws usize X' place_laws LX') p uss.1.0 is_p in let t = lone.0 in
    rewrite ! 0 (λ (us : List Val). ‵ (Slot.own_val p us)) lone.1 refl $ rewrite ! 1 (λ (us : List Val). ‵ (Held.own_val r us)) at_r refl $
    regoal ! (λ (us : List Val). prop (WpFn 𝓤 𝓛.H 𝓣.C 𝓣.Λ fn (us ++ []) Post)) (at_v ∙ (λ j. vstruct (of_list (at_r j ++ (lone.1 j ++ []))) ∷ [])) refl $
    -- [the slot; the map; the tokens of κ, κK, κV, κX; nothing]
    enter ! _ _ _ _ _ $ alloc_all ! (λ l. let Ev = env fn.locals l in let stored : Val → Item 𝓤 = λ v. ‵ (fat full_share (spot_of 𝓤 𝓛.H Ev 3).0 (spot_of 𝓤 𝓛.H Ev 3).1 0 v) in
    pass_all ! refl ((and_tt _ lone.2.0, (tt, (lone.2.1, tt))), tt) $
    sets ! (of_opd ! (get_in ! (fld ! refl (stop !)) (sub ! 0 refl (whole !)))) refl (tt, tt) $ sets ! (of_opd ! (get_in ! (fld ! refl (stop !)) (sub ! 1 refl (whole !)))) refl lone.2 $
    elim (which p) [
      | inl w ↦
          let i = w.0 in let word : Val = vint w64 i in let within : is_some (item_in m i) ≡ true = rw w.1 at there in
          rewrite ! 0 (At t) w.1 refl $ use1 𝓛 (given ((t ≡ live 0 (vcons word vnil)) × Good (layout usize) word) (‵ (usize.own_val i (word ∷ []))))
          (in_ok_told 𝓛 usize X' t i word (λ vs is. (uint_Tells w64 i vs is, (tt, record { fits = is.1 })))) $ learn ! (λ at_t. drop ! $ rewrite ! 18 stored at_t.0 refl $
          first ! $ by_variants ! 18 (whole !) (get_tag ! (vrt ! refl (fld ! refl (stop !))) (whole !)) tt (
            (λ _. sets ! (of_opd ! (get_in ! (vrt ! refl (fld ! refl (stop !))) (in_variant ! 0 0 refl refl (whole !)))) refl at_t.1 $ sets ! (addr ! (through ! refl (stop !))) refl (tt, tt) $
                let z : Shows.Ghost = (((κ, (κK, (κV, tt))), (q, (qK, (qV, tt))), y.0.2, (r, (i, tt)), (mut_vals r, (word ∷ [], tt))), tt) in
                nothing ! $ owned ! usize _ (uint_Makes 𝓛 w64) i _ (refl, at_t.1.1.fits) $ fjoin ! $ move ! (1 ∷ 0 ∷ []) $ fjoin ! $ move ! (1 ∷ 2 ∷ 3 ∷ 5 ∷ 0 ∷ []) $ group ! 4 $ join ! $
                tells ! (is_some (item_in m i) ≡ true) within $ tells ! (κV ⊑ V.lives) lV $ tells ! (κK ⊑ K.lives) lK $ group ! 3 $ move ! (1 ∷ 0 ∷ []) $ join ! $
                use1 𝓛 (raw (Shows.pre z)) (id⊢ 𝓤 _) $ calls_at ! (framed 𝓤 𝓛.H 𝓜 𝓣) Shows met z (and_then ! (get ! refl) (and_then ! (get ! refl) (no_more !))) (λ u.
                use1 𝓛 (later (some (λ (x : Bor K.Denot × MutBor V.Denot). ((‵ (flft κ q) ⊛ ‵ (flft κK qK) ⊛ ‵ (flft κV qV) ⊛ ‵ ftrue) ⊛ ‵ (Pair.own_val x (u ∷ [])))
                ⊛ raw (ensured 𝓛 (e.ended K V E dE P dP G dG) (e.clauses K V E dE P dP G dG 𝓛 𝓜.mem 𝓡.returns) z.0.0 z.0.3 tt x)))) (id⊢ 𝓤 _) $ await ! tt $ pick ! (λ x. split ! $ move ! (1 ∷ []) $
                let Read : Type 0 = item_in m i ≡ Some (x.0.now, x.1.now) in
                use1 𝓛 (‵ (follows R V' γ x.1.ghost_name (with_value m i)) ⊛ raw (fact 𝓤 Read)) (ex_e 𝓤 _ (λ ws. snd∗ 𝓤 (sem 𝓛 (lasts (e.ended K V E dE P dP G dG) z.0.0 z.0.3 ws)) _)) $ split ! $
                move ! (1 ∷ []) $ heard ! Read (λ read. move ! (1 ∷ []) $ split ! $ move ! (1 ∷ []) $
                -- [the pair; the tokens of κ, κK, κV; what the map follows; the token of κX]
                peeks ! Pair _ (shows 𝓛 Pair) x (u ∷ []) (λ is. let good = good_value 𝓛 Pair pair_laws x u is in
                let lent : Good (layout (L.RS.the_row Pair X')) (live 0 (vcons u vnil)) = (and_tt _ good.0, (record { fits = lit< tt }, (good.1, tt))) in
                lands_as ! refl refl good $ sets_last ! (agg ! (and_then ! (lit ! tt) (and_then ! (get ! refl) (no_more !)))) refl lent $
                exec ! 𝓣.C 𝓣.Λ Ev (after 3 fn.body) (at_ret Ev Post) $ sets ! (of_opd ! (get ! refl)) refl lent $ returns ! (look_at ! 0 refl) $ free_all ! refl $
                let out : Out = Ok x in use1 𝓛 (‵ ((L.RS.the_row Pair X').own_val out (live 0 (of_list (u ∷ [])) ∷ []))) (Ok-of 𝓛 Pair X' x u) $
                move ! (2 ∷ []) $ use1 𝓛 (Lends out)
                (so_follows 𝓛 R V' γ (λ w n. IfOk p (λ j. n ≡ with_value m j w)) (λ n. OnErr out (n ≡ m)) m tt x.1.ghost_name (with_value m i) (λ n. rw w.1 refl)) $
                tells ! (LendsSlot m p out) (rw w.1 (record { shown = read; refusal = refl })) $ move ! (1 ∷ 0 ∷ []) $ join ! $
                move ! (2 ∷ []) $ split3 ! $ move ! (2 ∷ []) $ split ! $ move ! (2 ∷ 3 ∷ 0 ∷ 6 ∷ 1 ∷ []) $ group ! 5 $ spent ! 1 $ move ! (1 ∷ 0 ∷ 3 ∷ 2 ∷ []) $ by ! (left (live 0 (of_list (u ∷ []))) out)))))),
            ((λ e. absurd (suc-ne-zero 0 (sym e))), tt),
          ))
      | inr w ↦
          let out : Out = Err w.0 in
          rewrite ! 0 (At t) w.1 refl $
          use1 𝓛 (some (λ (ev : Val). given ((t ≡ live 1 (vcons ev vnil)) × Good (layout X') ev) (‵ (X'.own_val w.0 (ev ∷ []))))) (in_err 𝓛 usize X' t w.0 (lone_value 𝓛 X' LX' w.0)) $ pick ! (λ ev. learn ! (λ at_t.
          rewrite ! 19 stored at_t.0 refl $ move ! (1 ∷ []) $ use1 𝓛 (later (‵ (fres γ (R.coded.code m)))) (given_up 𝓛 R (named 0) κ r) $ await ! tt $
          -- [what the map ends as; the error; the tokens of κ, κK, κV, κX; nothing]
          let lent : Good (layout (L.RS.the_row Pair X')) (live 1 (vcons ev vnil)) = (and_tt _ at_t.1.0, (record { fits = lit< tt }, (at_t.1.1, tt))) in
          first ! $ by_variants ! 19 (whole !) (get_tag ! (vrt ! refl (fld ! refl (stop !))) (whole !)) tt (
            (λ e. absurd (suc-ne-zero 0 e)),
            (
              (λ _. sets ! (of_opd ! (get_in ! (vrt ! refl (fld ! refl (stop !))) (in_variant ! 1 0 refl refl (whole !)))) refl at_t.1 $ sets ! (of_opd ! (get ! refl)) refl at_t.1 $
                  sets_last ! (agg ! (and_then ! (lit ! tt) (and_then ! (get ! refl) (no_more !)))) refl lent $
                  exec ! 𝓣.C 𝓣.Λ Ev (after 3 fn.body) (at_ret Ev Post) $ sets ! (of_opd ! (get ! refl)) refl lent $ returns ! (look_at ! 0 refl) $ free_all ! refl $
                  use1 𝓛 (Lends out) (so_rests 𝓛 R V' γ (λ n x. IfOk p (λ j. x ≡ with_value m j n)) (λ n. OnErr out (n ≡ m)) m refl (λ n. rw w.1 tt)) $
                  tells ! (LendsSlot m p out) (rw w.1 (record { shown = tt; refusal = refl })) $ move ! (1 ∷ 0 ∷ []) $ join ! $
                  move ! (1 ∷ []) $ use1 𝓛 (‵ ((L.RS.the_row Pair X').own_val out (live 1 (of_list (ev ∷ [])) ∷ []))) (Err-of 𝓛 Pair X' w.0 ev) $
                  move ! (2 ∷ 3 ∷ 4 ∷ 5 ∷ 6 ∷ []) $ group ! 5 $ spent ! 1 $ move ! (1 ∷ 0 ∷ []) $ by ! (left (live 1 (of_list (ev ∷ []))) out)),
              tt,
            ),
          )))
    ]))))))))))
