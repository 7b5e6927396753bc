-- `lend_new_value` meets its contract, at any key and value types: the map is lent to the call for good, and of what that
-- gives the value's reference is handed on. Assumes `Logic`.
use Rattle.core.specs.contracts.result.Result as RS
use Rattle.std.specs.declared.cmp.Eq as Eq
use Rattle.std.specs.declared.cmp.PartialEq as PartialEq
use Rattle.starlark_callers.proofs.Walks.{◌≡◌, refl, sym, subst, inl, inr, List, [], ◌∷◌, suc-ne-zero, lit<, Ura, Fn, Args, Dict, a_type, dcons, dnil, named, inst_fn, Val, vptr, vcons, vnil, of_list, SProp, ent, emp, id⊢, ex_e, snd∗, Lft, Share, ftrue, flft, Memory, Routine, Env, Calls, Loops, WpFn, Logic, sem, live, vrt, in_variant, by_variants, ◌⊑◌, Fun, fact, fact_i, tables, FmC, ‵, raw, ◌⊛◌, some, given, later, at_ret, ◌$◌, ◌∵◌, !, qed, move, keep, use0, use1, split, split3, join, pick, learn, fsplit, fsplit3, fjoin, suffices, frame, await, rewrite, group, done, whole, sub, agg, stop, fld, hop, from, addr, lit, of_opd, and_then, no_more, begins, exec, returns, enter, alloc_all, pass_all, free_all, look_at, look_in_at, get, get_in, get_tag, through, sets, sets_last, lands_as, env, no, RattleType, owns, param, bounded, layout, Laws, param_laws, Bor, MutBor, MutRef, ShrRef, mut_vals, mut_Tells, plain, types_at, mut_ref_to, nothing, heard, Tuple, tuple_laws, calls_at, Clauses, Ended, ensured, lasts, triple_of, Contract, Triple, framed, Stays, stay_dropped, walk_of, ends_at, Goes-spent_ref, Goes-blank, Good, Ok-of, Err-of, and_tt, after, proved_at, None, Result, Ok, Err, IfOk, IfErr, OnErr, Hashed, NoRoom, lone_value, in_err, entry_val, which}
use Rattle.starlark_hash.proofs.hashed.Hashed.TheLaws as hashed_laws
use Rattle.starlark_hash.specs.contracts.hashed.Hashed as H
use Rattle.starlark_hash.proofs.no_room.NoRoom.TheLaws as room_laws
use Rattle.starlark_hash.specs.contracts.no_room.NoRoom as N
use Rattle.starlark_hash.specs.HashValue.{hash_of, key_of}
use Rattle.starlark_hash.specs.Lookup.{found}
use Rattle.starlark_small.specs.Map.{Map}
use Rattle.starlark_small.specs.Lend.{lends_inserted}
use Rattle.starlark_small.specs.contracts.small_map.SmallMap as S
use Rattle.starlark_small.specs.contracts.small_map.SmallMap.insert_hashed_unique_unchecked as g
use Rattle.starlark_small.proofs.small_map.SmallMap.insert_hashed_unique_unchecked.Symbol.{name as #insert}
use Rattle.starlark_small.proofs.small_map.SmallMap.insert_hashed_unique_unchecked.Met as insert
use Rattle.starlark_callers.proofs.Steps.{in_ok_entry}
use Rattle.starlark_callers.specs.contracts.lent.maps.lend_new_value as F
use Rattle.starlark_callers.specs.contracts.lent.maps.lend_new_value.Key.{name as #self}
use Rattle.starlark_callers.proofs.lent.maps.lend_new_value.Statement.{statement}
use Rattle.starlark_callers.proofs.lent.maps.lend_new_value.Code as code

module _ (K V : RattleType) (E : Eq.Ghosts K.Denot) (dE : Dict) (P : PartialEq.Ghosts K.Denot) (dP : Dict) where
  abbrev args : Args
  args = bounded (a_type ∷ a_type ∷ []) (K, (V, tt)) (dcons dE (dcons dP dnil))

  abbrev here : Fn
  here = inst_fn args code.function

  abbrev ended : Ended
  ended = F.ended K V E dE P dP

  abbrev K' : RattleType
  K' = param 0 K

  abbrev V' : RattleType
  V' = param 1 V

  abbrev R : RattleType
  R = S.the_row K' V' P

  abbrev Key : RattleType
  Key = H.the_row K'

  abbrev Back : RattleType
  Back = N.the_row (Tuple (Key ∷ V' ∷ []))

  abbrev Pair : Lft → RattleType
  Pair κ = Tuple (ShrRef (named 0) κ K' ∷ MutRef (named 0) κ V' ∷ [])

  abbrev Got : Type 0
  Got = Result (Bor K.Denot × MutBor V.Denot) (NoRoom (Hashed K.Denot × V.Denot))

  abbrev Out : Type 0
  Out = Result (MutBor V.Denot) (NoRoom (Hashed K.Denot × V.Denot))

  abbrev back_laws : Laws K → Laws V → Laws Back
  back_laws LK LV = room_laws.the_row_laws (Tuple (Key ∷ V' ∷ [])) (tuple_laws (Key ∷ V' ∷ []) (hashed_laws.the_row_laws K' (param_laws 0 K LK), (param_laws 1 V LV, tt)))

  abbrev stayed : Stays ended.signature.params ended.kept
  stayed = (stay_dropped (mut_ref_to (0 ∷ []) tt (plain (λ _. R))) no, (stay_dropped (plain (λ _. Key)) no, (stay_dropped (plain (λ _. V')) no, tt)))

  module _ {M : Type 1} {𝓤 : Ura M} (𝓛 : Logic 𝓤) (at_mem : Memory → SProp 𝓤) (run : Routine → Fun 𝓤) where
    abbrev spec : Clauses 𝓤 ended
    spec = F.clauses K V E dE P dP 𝓛 at_mem run

    abbrev Inserts : Contract 𝓤
    Inserts = triple_of 𝓛 (g.signature K V E dE P dP) (g.spec K V E dE P dP 𝓛 at_mem run)

    module _ (LK : Laws K) (LV : Laws V) (C : Calls 𝓤 𝓛.H) (Λ : Loops 𝓤 𝓛.H) (fm : FmC 𝓤 𝓛.H 𝓛.laws C) (inserts : Triple 𝓤 (C (#insert args)) Inserts)
        (κ κK κV : Lft) (q qK qV : Share) (bounds : (κ ⊑ κK) × ((κ ⊑ κV) × Unit {0})) (r : MutBor (Map K.Denot V.Denot)) (key : Hashed K.Denot) (value : V.Denot)
        (k : Val) (k_good : Good (layout Key) k) (v : Val) (v_good : Good (layout V') v) where
      abbrev bound : (walk_of 𝓛 ended stayed spec).Ghost
      bound = (((κ, (κK, (κV, tt))), (q, (qK, (qV, tt))), bounds, (r, (key, (value, tt))), (mut_vals r, (k ∷ [], (v ∷ [], tt)))), tt)

      abbrev Post : Val → SProp 𝓤
      Post = (walk_of 𝓛 ended stayed spec).post bound

      walk : ent 𝓤 ((walk_of 𝓛 ended stayed spec).pre bound) (WpFn 𝓤 𝓛.H C Λ here (vptr r.ref_ptr.0 r.ref_ptr.1 ∷ k ∷ v ∷ []) Post)
      walk =
          let m = r.now in let Ref = MutRef (named 0) κ V' in
          qed 𝓛 (((‵ (flft κ q) ⊛ ‵ (flft κK qK) ⊛ ‵ (flft κV qV) ⊛ ‵ ftrue) ⊛ ‵ (owns (types_at ended.signature.params bound.0.0) bound.0.3 bound.0.4))
          ∷ (raw (fact 𝓤 (κK ⊑ K.lives)) ⊛ raw (fact 𝓤 (κV ⊑ V.lives)) ⊛ raw (fact 𝓤 (found (P.eq (key_of key)) (hash_of key) m.entries ≡ None))) ∷ []) ∵
          move ! (1 ∷ []) $ split3 ! $ heard ! (κK ⊑ K.lives) (λ lK. heard ! (κV ⊑ V.lives) (λ lV. heard ! (found (P.eq (key_of key)) (hash_of key) m.entries ≡ None) (λ absent.
          split ! $ move ! (1 ∷ []) $ fsplit3 ! $ move ! (2 ∷ []) $ fsplit ! $ keep ! (4 ∷ 2 ∷ 3 ∷ 0 ∷ []) $
          -- [the tokens; the map; the key; the value]
          enter ! C Λ here (vptr r.ref_ptr.0 r.ref_ptr.1 ∷ k ∷ v ∷ []) _ $ alloc_all ! (λ l. let En : Env 𝓤 𝓛.H = env (here).locals l in
          pass_all ! refl ((tt, tt), (k_good, (v_good, tt))) $
          sets ! (addr ! (through ! refl (stop !))) refl (tt, tt) $ sets ! (of_opd ! (get ! refl)) refl k_good $ sets ! (of_opd ! (get ! refl)) refl v_good $
          let z : Inserts.Ghost = bound in
          nothing ! $ move ! (4 ∷ 0 ∷ []) $ fjoin ! $ move ! (3 ∷ 0 ∷ []) $ fjoin ! $ move ! (2 ∷ 0 ∷ []) $ fjoin ! $ move ! (1 ∷ 0 ∷ []) $ join ! $
          use0 𝓛 (raw (fact 𝓤 (found (P.eq (key_of key)) (hash_of key) m.entries ≡ None))) (fact_i 𝓤 _ (emp 𝓤) absent) $ use0 𝓛 (raw (fact 𝓤 (κV ⊑ V.lives))) (fact_i 𝓤 _ (emp 𝓤) lV) $ use0 𝓛 (raw (fact 𝓤 (κK ⊑ K.lives))) (fact_i 𝓤 _ (emp 𝓤) lK) $
          group ! 3 $ move ! (1 ∷ 0 ∷ []) $ join ! $ use1 𝓛 (raw (Inserts.pre z)) (id⊢ 𝓤 _) $
          calls_at ! fm Inserts inserts z (and_then ! (get ! refl) (and_then ! (get ! refl) (and_then ! (get ! refl) (no_more !)))) (λ u.
          use1 𝓛 (later (some (λ (h : Got). ((‵ (flft κ q) ⊛ ‵ (flft κK qK) ⊛ ‵ (flft κV qV) ⊛ ‵ ftrue) ⊛ ‵ ((RS.the_row (Pair κ) Back).own_val h (u ∷ [])))
          ⊛ raw (ensured 𝓛 (g.ended K V E dE P dP) (g.clauses K V E dE P dP 𝓛 at_mem run) z.0.0 z.0.3 tt h)))) (id⊢ 𝓤 _) $ await ! tt $ pick ! (λ h. split ! $ move ! (1 ∷ []) $
          use1 𝓛 (‵ (lends_inserted K' V' P r key h) ⊛ raw (fact 𝓤 (IfOk h (λ y. (y.0.now ≡ key_of key) × (y.1.now ≡ value)))) ⊛ raw (fact 𝓤 (OnErr h (m.room ≡ 0))) ⊛ raw (fact 𝓤 (IfErr h (λ y. y.0 ≡ (key, value))))) (ex_e 𝓤 _ (λ ws. snd∗ 𝓤 (sem 𝓛 (lasts (g.ended K V E dE P dP) z.0.0 z.0.3 ws)) _)) $ split3 ! $
          move ! (1 ∷ 2 ∷ []) $ heard ! (IfOk h (λ y. (y.0.now ≡ key_of key) × (y.1.now ≡ value))) (λ shown. split ! $ heard ! (OnErr h (m.room ≡ 0)) (λ full. heard ! (IfErr h (λ y. y.0 ≡ (key, value))) (λ back.
          move ! (1 ∷ []) $ split ! $ move ! (1 ∷ []) $
          -- [what the call gave; the tokens; what the map follows]
          elim (which h) [
            | inl w ↦
                let x = w.0 in let out : Out = Ok x.1 in
                let is_value : x.1.now ≡ value = (subst (λ (y : Got). IfOk y (λ y. (y.0.now ≡ key_of key) × (y.1.now ≡ value))) w.1 shown).1 in
                rewrite ! 0 (λ (y : Got). ‵ ((RS.the_row (Pair κ) Back).own_val y (u ∷ []))) w.1 refl $ rewrite ! 2 (λ (y : Got). ‵ (lends_inserted K' V' P r key y)) w.1 refl $
                use1 𝓛 (given (u ≡ live 0 (vcons (entry_val 𝓛 K' V' κ x u) vnil)) (‵ (Ref.own_val x.1 (mut_vals x.1)))) (in_ok_entry 𝓛 K' V' κ x u Back) $ learn ! (λ at_u.
                lands_as ! at_u refl (tt, (record { fits = lit< tt }, ((tt, (tt, tt)), tt))) $
                begins ! $ by_variants ! 15 (whole !) (get_tag ! (vrt ! refl (fld ! refl (stop !))) (whole !)) tt (
                  (λ _. sets ! (of_opd ! (get_in ! (vrt ! refl (fld ! refl (stop !))) (in_variant ! 0 0 refl refl (whole !)))) refl (tt, (tt, (tt, tt))) $
                      sets ! (addr ! (from ! (fld ! refl (hop ! (look_in_at ! 4 (sub ! 1 refl (whole !))) (stop !))))) refl (tt, tt) $
                      sets_last ! (agg ! (and_then ! (lit ! tt) (and_then ! (get ! refl) (no_more !)))) refl (tt, (record { fits = lit< tt }, (tt, tt))) $
                      exec ! C Λ En (after 5 (here).body) (at_ret En Post) $ sets ! (of_opd ! (get ! refl)) refl (tt, (record { fits = lit< tt }, (tt, tt))) $
                      returns ! (look_at ! 0 refl) $ free_all ! refl $
                      use1 𝓛 (‵ ((RS.the_row Ref Back).own_val out (live 0 (of_list (mut_vals x.1)) ∷ []))) (Ok-of 𝓛 Ref Back x.1 (vptr x.1.ref_ptr.0 x.1.ref_ptr.1)) $
                      suffices ! _ (ends_at 𝓛 ended stayed spec bound (live 0 (of_list (mut_vals x.1))) out (tt, ((tt, (tt, tt)), (tt, tt))) (tt, (tt, (tt, tt)))) $
                      nothing ! $ nothing ! $ fjoin ! $ nothing ! $ fjoin ! $ nothing ! $ fjoin ! $ join ! $ move ! (1 ∷ 0 ∷ []) $ join ! $ frame ! $
                      use0 𝓛 (raw (fact 𝓤 (IfErr out (λ y. y.0 ≡ (key, value))))) (fact_i 𝓤 _ (emp 𝓤) tt) $ use0 𝓛 (raw (fact 𝓤 (OnErr out (m.room ≡ 0)))) (fact_i 𝓤 _ (emp 𝓤) tt) $
                      use0 𝓛 (raw (fact 𝓤 (IfOk out (λ y. y.now ≡ value)))) (fact_i 𝓤 _ (emp 𝓤) is_value) $ move ! (3 ∷ []) $ done !),
                  ((λ e. absurd (suc-ne-zero 0 (sym e))), tt),
                ))
            | inr w ↦
                let out : Out = Err w.0 in
                let back' : (w.0).0 ≡ (key, value) = subst (λ (y : Got). IfErr y (λ y. y.0 ≡ (key, value))) w.1 back in
                let none : m.room ≡ 0 = subst (λ (y : Got). OnErr y (m.room ≡ 0)) w.1 full in
                rewrite ! 0 (λ (y : Got). ‵ ((RS.the_row (Pair κ) Back).own_val y (u ∷ []))) w.1 refl $ rewrite ! 2 (λ (y : Got). ‵ (lends_inserted K' V' P r key y)) w.1 refl $
                use1 𝓛 (some (λ (ev : Val). given ((u ≡ live 1 (vcons ev vnil)) × Good (layout Back) ev) (‵ (Back.own_val w.0 (ev ∷ []))))) (in_err 𝓛 (Pair κ) Back u w.0 (lone_value 𝓛 Back (back_laws LK LV) w.0)) $ pick ! (λ ev. learn ! (λ at_u.
                let e_good = and_tt _ at_u.1.0 in
                lands_as ! at_u.0 refl (e_good, (record { fits = lit< tt }, (at_u.1.1, tt))) $
                begins ! $ by_variants ! 15 (whole !) (get_tag ! (vrt ! refl (fld ! refl (stop !))) (whole !)) tt (
                  (λ e. absurd (suc-ne-zero 0 e)),
                  (
                    (λ _. sets ! (of_opd ! (get_in ! (vrt ! refl (fld ! refl (stop !))) (in_variant ! 1 0 refl refl (whole !)))) refl at_u.1 $
                        sets ! (of_opd ! (get ! refl)) refl at_u.1 $
                        sets_last ! (agg ! (and_then ! (lit ! tt) (and_then ! (get ! refl) (no_more !)))) refl (e_good, (record { fits = lit< tt }, (at_u.1.1, tt))) $
                        exec ! C Λ En (after 5 (here).body) (at_ret En Post) $ sets ! (of_opd ! (get ! refl)) refl (e_good, (record { fits = lit< tt }, (at_u.1.1, tt))) $
                        returns ! (look_at ! 0 refl) $ free_all ! refl $
                        use1 𝓛 (‵ ((RS.the_row Ref Back).own_val out (live 1 (of_list (ev ∷ [])) ∷ []))) (Err-of 𝓛 Ref Back w.0 ev) $
                        suffices ! _ (ends_at 𝓛 ended stayed spec bound (live 1 (of_list (ev ∷ []))) out (tt, ((tt, (tt, tt)), (tt, tt))) (tt, (tt, (tt, tt)))) $
                        nothing ! $ nothing ! $ fjoin ! $ nothing ! $ fjoin ! $ nothing ! $ fjoin ! $ join ! $ move ! (1 ∷ 0 ∷ []) $ join ! $ frame ! $
                        use0 𝓛 (raw (fact 𝓤 (IfErr out (λ y. y.0 ≡ (key, value))))) (fact_i 𝓤 _ (emp 𝓤) back') $ use0 𝓛 (raw (fact 𝓤 (OnErr out (m.room ≡ 0)))) (fact_i 𝓤 _ (emp 𝓤) none) $
                        use0 𝓛 (raw (fact 𝓤 (IfOk out (λ y. y.now ≡ value)))) (fact_i 𝓤 _ (emp 𝓤) tt) $ move ! (3 ∷ []) $ done !),
                    tt,
                  ),
                )))
          ])))))))))

pub lend_new_value_spec : {M : Type 1} → statement M
lend_new_value_spec 𝓤 𝓛 𝓜 𝓡 wired K V LK LV E dE P dP is_eq is_partial =
    let 𝓣 = tables 𝓤 𝓛.H 𝓜 𝓡 𝓡.env in let c = F.clauses K V E dE P dP 𝓛 𝓜.mem 𝓡.returns in
    proved_at 𝓛 (ended K V E dE P dP) (stayed K V E dE P dP) c 𝓜 𝓡
    (Goes-spent_ref 𝓛 3 (0 ∷ []) tt (plain (λ _. R K V E dE P dP)), (Goes-blank 𝓛 3 (plain (λ _. Key K V E dE P dP)) no (λ κs x f. tt), (Goes-blank 𝓛 3 (plain (λ _. V' K V E dE P dP)) no (λ κs x f. tt), tt)))
    (#self (args K V E dE P dP)) (here K V E dE P dP) (code.unfolded 𝓤 𝓛.H 𝓜 𝓡 wired (K, (V, tt)) dE dP) (λ y are.
    let κs = y.0.0 in let qs = y.0.1 in let a = y.0.3 in let vss = y.0.4 in let W = walk_of 𝓛 (ended K V E dE P dP) (stayed K V E dE P dP) c in
    let map_is = mut_Tells (named 0) κs.0 (R K V E dE P dP) a.0 vss.0 are.0 in
    let k = lone_value 𝓛 (Key K V E dE P dP) (hashed_laws.the_row_laws (param 0 K) (param_laws 0 K LK)) a.1.0 vss.1.0 are.1.0 in
    let v = lone_value 𝓛 (V' K V E dE P dP) (param_laws 1 V LV) a.1.1.0 vss.1.1.0 are.1.1.0 in
    subst (λ (us : List Val × (List Val × (List Val × Unit {0}))). ent 𝓤 (W.pre ((κs, qs, y.0.2, a, us), y.1)) (WpFn 𝓤 𝓛.H 𝓣.C 𝓣.Λ (here K V E dE P dP) (W.args ((κs, qs, y.0.2, a, us), y.1)) (W.post ((κs, qs, y.0.2, a, us), y.1))))
    (sym (λ j. (map_is j, (k.1 j, (v.1 j, tt)))))
    (walk K V E dE P dP 𝓛 𝓜.mem 𝓡.returns LK LV 𝓣.C 𝓣.Λ (framed 𝓤 𝓛.H 𝓜 𝓣)
    (insert.met 𝓤 𝓛 𝓜 𝓡 (code.calls-starlark_small::small_map::SmallMap::insert_hashed_unique_unchecked 𝓡.env wired) K V LK LV E dE P dP is_eq is_partial)
    κs.0 κs.1.0 κs.1.1.0 qs.0 qs.1.0 qs.1.1.0 y.0.2 a.0 a.1.0 a.1.1.0 k.0 k.2 v.0 v.2))
