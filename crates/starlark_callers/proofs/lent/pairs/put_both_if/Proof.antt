-- `put_both_if` meets its contract, at any two item types: as `put_both` where the call lends a pair; else the list
-- comes back as it was. Assumes `Logic`.
use Rattle.core.specs.contracts.option.Option as OP
use Rattle.core.specs.contracts.result.Result as RS
use Rattle.starlark_callers.proofs.Walks.{◌≡◌, refl, sym, ap, subst, ◌∙◌, inl, inr, List, [], ◌∷◌, ℕ, ◌<◌, ◌^◌, suc-ne-zero, lit<, Ura, Fn, Args, a_type, named, w64, inst_fn, Val, vint, vptr, vstruct, vcons, vnil, of_list, SProp, ent, sep, emp, id⊢, ex_e, snd∗, Lft, GName, Share, ftrue, flft, fres, Memory, Routine, Env, Calls, Loops, WpFn, Logic, sem, live, vrt, in_variant, by_variants, ◌⊑◌, ⊑_trans, meet_⊑_right, Fun, fact, fact_i, tables, FmC, by, ‵, raw, ◌⊛◌, some, given, later, at_ret, ◌$◌, ◌∵◌, !, qed, move, keep, drop, use0, use1, use2, use3, split, split3, join, pick, learn, fsplit, fsplit3, fjoin, suffices, frame, await, rewrite, group, done, whole, agg, stop, fld, addr, lit, of_opd, and_then, no_more, begins, exec, returns, enter, alloc_all, pass_all, free_all, look_at, get, get_in, get_tag, through, sets, sets_last, lands_as, env, no, yes, RattleType, owns, Is, shows, usize, follows_both, param, layouts, layout, Laws, param_laws, uint_Makes, uint_Tells, MutBor, MutRef, mut_vals, mut_Tells, plain, types_at, nothing, owned, heard, peeks, Tuple, tuple_laws, calls_at, Clauses, Ended, Lasts, ensured, lasts, triple_of, Contract, Triple, framed, Stays, stay_dropped, stay_ref, walk_of, ends_at, Goes-ref, Goes-dropped, Goes-blank, Good, Ok-of, Err-of, and_tt, after, proved_at, Option, Some, None, Result, Ok, Err, IfOk, IfErr, OnOk, OnErr, slice_get, slice_set, lone_value, as_tuple}
use Rattle.starlark_vec2.specs.Lend.{with_pair, deref_both_mut, lends_both_if}
use Rattle.starlark_vec2.specs.PairList.{PairList}
use Rattle.starlark_vec2.specs.contracts.vec2.Vec2 as V
use Rattle.starlark_vec2.specs.contracts.vec2.Vec2.get_mut as g
use Rattle.starlark_vec2.proofs.vec2.Vec2.get_mut.Symbol.{name as #lend}
use Rattle.starlark_vec2.proofs.vec2.Vec2.get_mut.Met as lend
use Rattle.starlark_vec2.proofs.LentInOption.{either, in_none, PairOf}
use Rattle.starlark_columns.proofs.LogicNames.{option_map}
use Rattle.starlark_callers.proofs.Steps.{both, pair_laws, good_value, within, Kept, lent_within, back_again, both_followed, left_two, left_neither, in_some}
use Rattle.starlark_callers.specs.contracts.lent.put.put_pair as p
use Rattle.starlark_callers.proofs.lent.put.put_pair.Symbol.{name as #put}
use Rattle.starlark_callers.proofs.lent.put.put_pair.Met as put
use Rattle.starlark_callers.specs.contracts.lent.pairs.put_both_if as F
use Rattle.starlark_callers.specs.contracts.lent.pairs.put_both_if.Key.{name as #self}
use Rattle.starlark_callers.proofs.lent.pairs.put_both_if.Statement.{statement}
use Rattle.starlark_callers.proofs.lent.pairs.put_both_if.Code as code

module _ (A B : RattleType) where
  abbrev args : Args
  args = layouts (a_type ∷ a_type ∷ []) (A, (B, tt))

  abbrev here : Fn
  here = inst_fn args code.function

  abbrev ended : Ended
  ended = F.ended A B

  abbrev A' : RattleType
  A' = param 0 A

  abbrev B' : RattleType
  B' = param 1 B

  abbrev R : RattleType
  R = V.the_row A' B'

  abbrev Parts : RattleType
  Parts = Tuple (A' ∷ B' ∷ [])

  abbrev parts_laws : Laws A → Laws B → Laws Parts
  parts_laws LA LB = tuple_laws (A' ∷ B' ∷ []) (param_laws 0 A LA, (param_laws 1 B LB, tt))

  abbrev Lent : Type 0
  Lent = Option (MutBor A.Denot × MutBor B.Denot)

  abbrev Out : Type 0
  Out = Result (A.Denot × B.Denot) (A.Denot × B.Denot)

  abbrev stayed : Stays ended.signature.params ended.kept
  stayed = (stay_ref (0 ∷ []) tt (plain (λ _. R)), (stay_dropped (plain (λ _. usize)) yes, (stay_dropped (plain (λ _. A')) no, (stay_dropped (plain (λ _. B')) no, tt))))

  module _ {M : Type 1} {𝓤 : Ura M} (𝓛 : Logic 𝓤) (at_mem : Memory → SProp 𝓤) (run : Routine → Fun 𝓤) where
    open 𝓛 use {A as A₀}

    abbrev spec : Clauses 𝓤 ended
    spec = F.clauses A B 𝓛 at_mem run

    abbrev Lends : Contract 𝓤
    Lends = triple_of 𝓛 (g.signature A B) (g.spec A B 𝓛 at_mem run)

    abbrev Puts : Contract 𝓤
    Puts = triple_of 𝓛 (p.signature A B) (p.spec A B 𝓛 at_mem run)

    module _ (LA : Laws A) (LB : Laws B) (C : Calls 𝓤 𝓛.H) (Λ : Loops 𝓤 𝓛.H) (fm : FmC 𝓤 𝓛.H 𝓛.laws C) (lends : Triple 𝓤 (C (#lend args)) Lends) (puts : Triple 𝓤 (C (#put args)) Puts)
        (κ κA κB : Lft) (q qA qB : Share) (bounds : (κ ⊑ κA) × ((κ ⊑ κB) × Unit {0})) (r : MutBor (PairList A.Denot B.Denot)) (i : ℕ) (fi : i < 2 ^ 64) (first : A.Denot) (second : B.Denot)
        (f : Val) (f_good : Good (layout A') f) (s : Val) (s_good : Good (layout B') s) where
      abbrev bound : (walk_of 𝓛 ended stayed spec).Ghost
      bound = (((κ, (κA, (κB, tt))), (q, (qA, (qB, tt))), bounds, (r, (i, (first, (second, tt)))), (mut_vals r, (vint w64 i ∷ [], (f ∷ [], (s ∷ [], tt))))), tt)

      abbrev Post : Val → SProp 𝓤
      Post = (walk_of 𝓛 ended stayed spec).post bound

      abbrev Tokens : SProp 𝓤
      Tokens = sep 𝓤 (A₀.lft κ q) (sep 𝓤 (A₀.lft κA qA) (sep 𝓤 (A₀.lft κB qB) (sem 𝓛 ftrue)))

      -- what was there, the list as it ends and the tokens are what the function leaves
      gives : (out : Out) (c : Val) (n : PairList A.Denot B.Denot) → IfOk out (λ z. slice_get r.now.pairs i ≡ Some z) → OnOk out (n.pairs ≡ slice_set r.now.pairs i (first, second))
          → OnErr out (slice_get r.now.pairs i ≡ None) → IfErr out (λ z. z ≡ (first, second)) → OnErr out (n.pairs ≡ r.now.pairs) → n.capacity ≡ r.now.capacity
          → ent 𝓤 (sep 𝓤 (sem 𝓛 ((RS.the_row Parts Parts).own_val out (c ∷ []))) (sep 𝓤 (sem 𝓛 ((MutRef (named 0) κ R).own_val (record r { now = n }) (mut_vals r))) Tokens)) (Post c)
      gives out c n taken put absent back same capacity =
          let v = r.now in
          qed 𝓛 (‵ ((RS.the_row Parts Parts).own_val out (c ∷ [])) ∷ ‵ ((MutRef (named 0) κ R).own_val (record r { now = n }) (mut_vals r)) ∷ raw Tokens ∷ []) ∵
          suffices ! _ (ends_at 𝓛 ended stayed spec bound c out (n, (tt, (tt, (tt, tt)))) (tt, (tt, (tt, (tt, tt))))) $
          nothing ! $ nothing ! $ fjoin ! $ nothing ! $ fjoin ! $ nothing ! $ fjoin ! $ move ! (2 ∷ 0 ∷ []) $ fjoin ! $ join ! $ move ! (1 ∷ 0 ∷ []) $ join ! $ frame ! $
          use0 𝓛 (raw (fact 𝓤 (n.capacity ≡ v.capacity))) (fact_i 𝓤 _ (emp 𝓤) capacity) $ use0 𝓛 (raw (fact 𝓤 (OnErr out (n.pairs ≡ v.pairs)))) (fact_i 𝓤 _ (emp 𝓤) same) $
          use0 𝓛 (raw (fact 𝓤 (IfErr out (λ z. z ≡ (first, second))))) (fact_i 𝓤 _ (emp 𝓤) back) $ use0 𝓛 (raw (fact 𝓤 (OnErr out (slice_get v.pairs i ≡ None)))) (fact_i 𝓤 _ (emp 𝓤) absent) $
          use0 𝓛 (raw (fact 𝓤 (OnOk out (n.pairs ≡ slice_set v.pairs i (first, second))))) (fact_i 𝓤 _ (emp 𝓤) put) $
          use0 𝓛 (raw (fact 𝓤 (IfOk out (λ z. slice_get v.pairs i ≡ Some z)))) (fact_i 𝓤 _ (emp 𝓤) taken) $ done !

      walk : ent 𝓤 ((walk_of 𝓛 ended stayed spec).pre bound) (WpFn 𝓤 𝓛.H C Λ here (vptr r.ref_ptr.0 r.ref_ptr.1 ∷ vint w64 i ∷ f ∷ s ∷ []) Post)
      walk =
          let qq = within 𝓛 R κ q r in let v = r.now in let F' : A.Denot → B.Denot → PairList A.Denot B.Denot = λ a b. with_pair v i (a, b) in let ends = F' first second in
          let Ref = λ (x : MutBor (PairList A.Denot B.Denot)). (MutRef (named 0) κ R).own_val x (mut_vals r) in
          qed 𝓛 (((‵ (flft κ q) ⊛ ‵ (flft κA qA) ⊛ ‵ (flft κB qB) ⊛ ‵ ftrue) ⊛ ‵ (owns (types_at ended.signature.params bound.0.0) bound.0.3 bound.0.4))
          ∷ (raw (fact 𝓤 (κA ⊑ A.lives)) ⊛ raw (fact 𝓤 (κB ⊑ B.lives)) ⊛ ‵ ftrue) ∷ []) ∵
          move ! (1 ∷ []) $ split3 ! $ heard ! (κA ⊑ A.lives) (λ lA. heard ! (κB ⊑ B.lives) (λ lB. drop ! $
          split ! $ split3 ! $ move ! (2 ∷ []) $ split ! $ move ! (4 ∷ []) $ fsplit3 ! $ move ! (2 ∷ []) $ fsplit3 ! $ keep ! (7 ∷ 3 ∷ 8 ∷ 5 ∷ 0 ∷ 1 ∷ []) $
          enter ! C Λ here (vptr r.ref_ptr.0 r.ref_ptr.1 ∷ vint w64 i ∷ f ∷ s ∷ []) _ $ alloc_all ! (λ l. let En : Env 𝓤 𝓛.H = env (here).locals l in pass_all ! refl ((tt, tt), ((tt, record { fits = fi }), (f_good, (s_good, tt)))) $
          sets ! (addr ! (through ! refl (stop !))) refl (tt, tt) $
          use2 𝓛 (later (some (λ (α : ℕ). some (λ (δ : GName). ‵ (flft (α ∷ κ) qq) ⊛ ‵ ((MutRef (named 0) (α ∷ κ) R).own_val (record r { ghost_name = δ }) (mut_vals r)) ⊛ raw (Kept 𝓛 R κ q r α δ))))) (lent_within 𝓛 R κ q r) $ await ! tt $ pick ! (λ α. pick ! (λ δ. split3 ! $
          -- [the token of ακ; the loan; what the lender keeps; the tokens of κA, κB; the first item; the second]
          let ακ : Lft = α ∷ κ in let loan : MutBor (PairList A.Denot B.Denot) = record r { ghost_name = δ } in let Refs = PairOf A' B' ακ in
          let refs_laws : Laws Refs = pair_laws ακ A' B' (param_laws 0 A LA) (param_laws 1 B LB) in
          let inA : ακ ⊑ κA = ⊑_trans ακ κ κA (meet_⊑_right (α ∷ []) κ) bounds.0 in let inB : ακ ⊑ κB = ⊑_trans ακ κ κB (meet_⊑_right (α ∷ []) κ) bounds.1.0 in
          let z : Lends.Ghost = (((ακ, (κA, (κB, tt))), (qq, (qA, (qB, tt))), (inA, (inB, tt)), (loan, (i, tt)), (mut_vals loan, (vint w64 i ∷ [], tt))), tt) in
          nothing ! $ owned ! usize _ (uint_Makes 𝓛 w64) i _ (refl, fi) $ fjoin ! $ move ! (2 ∷ 0 ∷ []) $ fjoin ! $
          nothing ! $ move ! (5 ∷ 0 ∷ []) $ join ! $ move ! (4 ∷ 0 ∷ []) $ join ! $ move ! (2 ∷ 0 ∷ []) $ join ! $ join ! $
          nothing ! $ use0 𝓛 (raw (fact 𝓤 (κB ⊑ B.lives))) (fact_i 𝓤 _ (emp 𝓤) lB) $ use0 𝓛 (raw (fact 𝓤 (κA ⊑ A.lives))) (fact_i 𝓤 _ (emp 𝓤) lA) $
          group ! 3 $ move ! (1 ∷ 0 ∷ []) $ join ! $ use1 𝓛 (raw (Lends.pre z)) (id⊢ 𝓤 _) $
          calls_at ! fm Lends lends z (and_then ! (get ! refl) (and_then ! (get ! refl) (no_more !))) (λ u.
          use1 𝓛 (later (some (λ (h : Lent). ((‵ (flft ακ qq) ⊛ ‵ (flft κA qA) ⊛ ‵ (flft κB qB) ⊛ ‵ ftrue) ⊛ ‵ ((OP.the_row Refs).own_val h (u ∷ [])))
          ⊛ raw (ensured 𝓛 (g.ended A B) (g.clauses A B 𝓛 at_mem run) z.0.0 z.0.3 tt h)))) (id⊢ 𝓤 _) $ await ! tt $ pick ! (λ h. split ! $ move ! (1 ∷ []) $
          use1 𝓛 (‵ (lends_both_if A' B' loan i h) ⊛ raw (fact 𝓤 (option_map deref_both_mut h ≡ slice_get v.pairs i))) (ex_e 𝓤 _ (λ ws. snd∗ 𝓤 (sem 𝓛 (lasts (g.ended A B) z.0.0 z.0.3 ws)) _)) $ split ! $
          move ! (1 ∷ []) $ heard ! (option_map deref_both_mut h ≡ slice_get v.pairs i) (λ found. move ! (1 ∷ []) $ split ! $ move ! (1 ∷ []) $
          -- [what the call gave; the tokens; what the list follows; what the lender keeps; the first item; the second]
          elim (either h) [
            | inl w ↦
                let x = w.0 in
                rewrite ! 0 (λ (t : Lent). ‵ ((OP.the_row Refs).own_val t (u ∷ []))) w.1 refl $ rewrite ! 2 (λ (t : Lent). ‵ (lends_both_if A' B' loan i t)) w.1 refl $
                move ! (2 ∷ []) $ use1 𝓛 (‵ (follows_both R A' B' δ x.0.ghost_name x.1.ghost_name F')) (left_two 𝓛 R A' B' δ F' x.0.ghost_name x.1.ghost_name v) $ move ! (1 ∷ 2 ∷ 0 ∷ []) $
                use1 𝓛 (some (λ (pv : Val). given ((u ≡ live 1 (vcons pv vnil)) × Good (layout Refs) pv) (‵ (Refs.own_val x (pv ∷ []))))) (in_some 𝓛 Refs refs_laws x u) $ pick ! (λ pv. learn ! (λ at_u.
                lands_as ! at_u.0 refl (and_tt _ at_u.1.0, (record { fits = lit< tt }, (at_u.1.1, tt))) $
                begins ! $ by_variants ! 24 (whole !) (get_tag ! (vrt ! refl (fld ! refl (stop !))) (whole !)) tt (
                  (λ _. sets ! (of_opd ! (get_in ! (vrt ! refl (fld ! refl (stop !))) (in_variant ! 1 0 refl refl (whole !)))) refl at_u.1 $ sets ! (of_opd ! (get ! refl)) refl at_u.1 $
                      sets ! (of_opd ! (get ! refl)) refl f_good $ sets ! (of_opd ! (get ! refl)) refl s_good $
                      let y : Puts.Ghost = (((ακ, (κA, (κB, tt))), (qq, (qA, (qB, tt))), (inA, (inB, tt)), (x, (first, (second, tt))), (pv ∷ [], (f ∷ [], (s ∷ [], tt)))), tt) in
                      nothing ! $ move ! (6 ∷ 0 ∷ []) $ fjoin ! $ move ! (5 ∷ 0 ∷ []) $ fjoin ! $ move ! (1 ∷ 0 ∷ []) $ fjoin ! $ move ! (1 ∷ 0 ∷ []) $ join ! $
                      nothing ! $ use0 𝓛 (raw (fact 𝓤 (κB ⊑ B.lives))) (fact_i 𝓤 _ (emp 𝓤) lB) $ use0 𝓛 (raw (fact 𝓤 (κA ⊑ A.lives))) (fact_i 𝓤 _ (emp 𝓤) lA) $
                      group ! 3 $ move ! (1 ∷ 0 ∷ []) $ join ! $ use1 𝓛 (raw (Puts.pre y)) (id⊢ 𝓤 _) $
                      calls_at ! fm Puts puts y (and_then ! (get ! refl) (and_then ! (get ! refl) (and_then ! (get ! refl) (no_more !)))) (λ c.
                      use1 𝓛 (later (some (λ (o : A.Denot × B.Denot). ((‵ (flft ακ qq) ⊛ ‵ (flft κA qA) ⊛ ‵ (flft κB qB) ⊛ ‵ ftrue) ⊛ ‵ (Parts.own_val o (c ∷ [])))
                      ⊛ some (λ (ws : Lasts (p.ended A B) y.0.0 y.0.3). ‵ (lasts (p.ended A B) y.0.0 y.0.3 ws) ⊛ raw (fact 𝓤 (ws.0.0 ≡ first)) ⊛ raw (fact 𝓤 (ws.0.1.0 ≡ second)) ⊛ raw (fact 𝓤 (o ≡ (x.0.now, x.1.now))))))) (id⊢ 𝓤 _) $ await ! tt $ pick ! (λ o. split ! $ move ! (1 ∷ []) $ pick ! (λ ws.
                      split3 ! $ move ! (1 ∷ 2 ∷ []) $ heard ! (ws.0.0 ≡ first) (λ is_first. split ! $ heard ! (ws.0.1.0 ≡ second) (λ is_second. heard ! (o ≡ (x.0.now, x.1.now)) (λ was. fsplit ! $ fsplit ! $ fsplit ! $ move ! (2 ∷ []) $ fsplit ! $ fsplit ! $
                      rewrite ! 0 (λ (t : B.Denot). ‵ (fres x.1.ghost_name (B'.coded.code t))) is_second refl $ rewrite ! 3 (λ (t : A.Denot). ‵ (fres x.0.ghost_name (A'.coded.code t))) is_first refl $
                      move ! (6 ∷ []) $ split ! $ move ! (1 ∷ []) $ peeks ! Parts (Is Parts) (shows 𝓛 Parts) o (c ∷ []) (λ is_c. let c_good = good_value 𝓛 Parts (parts_laws LA LB) o c is_c in
                      lands_as ! refl refl c_good $
                      let out_good = and_tt _ c_good.0 in
                      sets_last ! (agg ! (and_then ! (lit ! tt) (and_then ! (get ! refl) (no_more !)))) refl (out_good, (record { fits = lit< tt }, (c_good.1, tt))) $
                      exec ! C Λ En (after 3 (here).body) (at_ret En Post) $
                      -- [what was there; the tokens; what the second ends as; its borrow; nothing; what the first ends as; its borrow;
                      -- nothing; what the list follows; what the lender keeps]
                      move ! (5 ∷ 2 ∷ 8 ∷ []) $ use3 𝓛 (‵ (fres δ (R.coded.code ends))) (both_followed 𝓛 R A' B' δ F' x.0.ghost_name x.1.ghost_name first second) $
                      move ! (2 ∷ []) $ split3 ! $ move ! (3 ∷ 0 ∷ 9 ∷ []) $ use3 𝓛 (later (‵ (Ref (record r { now = ends })) ⊛ ‵ (flft κ q))) (back_again 𝓛 R κ q r α δ ends) $ await ! tt $ split ! $
                      sets ! (of_opd ! (get ! refl)) refl (out_good, (record { fits = lit< tt }, (c_good.1, tt))) $ returns ! (look_at ! 0 refl) $ free_all ! refl $
                      move ! (4 ∷ []) $ use1 𝓛 (‵ ((RS.the_row Parts Parts).own_val (Ok o) (live 0 (of_list (c ∷ [])) ∷ []))) (Ok-of 𝓛 Parts Parts o c) $ keep ! (0 ∷ 1 ∷ 2 ∷ 3 ∷ 4 ∷ []) $
                      by ! (gives (Ok o) (live 0 (of_list (c ∷ []))) ends (sym found ∙ ap (option_map deref_both_mut) w.1 ∙ ap Some (sym was)) refl tt tt tt refl))))))))),
                  ((λ e. absurd (suc-ne-zero 0 e)), tt),
                )))
            | inr w ↦
                rewrite ! 0 (λ (t : Lent). ‵ ((OP.the_row Refs).own_val t (u ∷ []))) w refl $ rewrite ! 2 (λ (t : Lent). ‵ (lends_both_if A' B' loan i t)) w refl $
                use1 𝓛 (raw (fact 𝓤 (u ≡ live 0 vnil))) (in_none 𝓛 Refs u) $ heard ! (u ≡ live 0 vnil) (λ at_u.
                move ! (1 ∷ []) $ use1 𝓛 (‵ (fres δ (R.coded.code v))) (left_neither 𝓛 R A' B' δ F' v) $
                move ! (1 ∷ []) $ split3 ! $ move ! (3 ∷ 0 ∷ 4 ∷ []) $ use3 𝓛 (later (‵ (Ref (record r { now = v })) ⊛ ‵ (flft κ q))) (back_again 𝓛 R κ q r α δ v) $ await ! tt $ split ! $
                -- [the list; the tokens; the first item; the second]
                lands_as ! at_u refl (tt, (record { fits = lit< tt }, tt)) $
                begins ! $ by_variants ! 24 (whole !) (get_tag ! (vrt ! refl (fld ! refl (stop !))) (whole !)) tt (
                  (λ e. absurd (suc-ne-zero 0 (sym e))),
                  (
                    (λ _. sets ! (of_opd ! (get ! refl)) refl f_good $ sets ! (of_opd ! (get ! refl)) refl s_good $
                        let back_good = both _ _ f_good.0 s_good.0 in
                        sets ! (agg ! (and_then ! (get ! refl) (and_then ! (get ! refl) (no_more !)))) refl (back_good, (f_good.1, (s_good.1, tt))) $
                        sets_last ! (agg ! (and_then ! (lit ! tt) (and_then ! (get ! refl) (no_more !)))) refl (and_tt _ back_good, (record { fits = lit< tt }, ((f_good.1, (s_good.1, tt)), tt))) $
                        exec ! C Λ En (after 3 (here).body) (at_ret En Post) $ sets ! (of_opd ! (get ! refl)) refl (and_tt _ back_good, (record { fits = lit< tt }, ((f_good.1, (s_good.1, tt)), tt))) $
                        returns ! (look_at ! 0 refl) $ free_all ! refl $
                        let back : Val = vstruct (vcons f (vcons s vnil)) in let out : Out = Err (first, second) in
                        move ! (4 ∷ 5 ∷ []) $ use2 𝓛 (‵ (Parts.own_val (first, second) (back ∷ []))) (as_tuple 𝓛 A' B' first second f s) $
                        use1 𝓛 (‵ ((RS.the_row Parts Parts).own_val out (live 1 (of_list (back ∷ [])) ∷ []))) (Err-of 𝓛 Parts Parts (first, second) back) $
                        by ! (gives out (live 1 (of_list (back ∷ []))) v tt tt (sym found ∙ ap (option_map deref_both_mut) w) refl refl refl)),
                    tt,
                  ),
                ))
          ]))))))))

pub put_both_if_spec : {M : Type 1} → statement M
put_both_if_spec 𝓤 𝓛 𝓜 𝓡 wired A B LA LB =
    let 𝓣 = tables 𝓤 𝓛.H 𝓜 𝓡 𝓡.env in let c = F.clauses A B 𝓛 𝓜.mem 𝓡.returns in
    proved_at 𝓛 (ended A B) (stayed A B) c 𝓜 𝓡
    (Goes-ref 𝓛 3 0 tt (plain (λ _. R A B)), (Goes-dropped 𝓛 3 (plain (λ _. usize)) yes (λ κs x f. refl), (Goes-blank 𝓛 3 (plain (λ _. A' A B)) no (λ κs x f. tt), (Goes-blank 𝓛 3 (plain (λ _. B' A B)) no (λ κs x f. tt), tt))))
    (#self (args A B)) (here A B) (code.unfolded 𝓤 𝓛.H 𝓜 𝓡 wired (A, (B, tt))) (λ y are.
    let κs = y.0.0 in let qs = y.0.1 in let a = y.0.3 in let vss = y.0.4 in let W = walk_of 𝓛 (ended A B) (stayed A B) c in
    let list_is = mut_Tells (named 0) κs.0 (R A B) a.0 vss.0 are.0 in let i_is = uint_Tells w64 a.1.0 vss.1.0 are.1.0 in
    let f = lone_value 𝓛 (A' A B) (param_laws 0 A LA) a.1.1.0 vss.1.1.0 are.1.1.0 in
    let s = lone_value 𝓛 (B' A B) (param_laws 1 B LB) a.1.1.1.0 vss.1.1.1.0 are.1.1.1.0 in
    subst (λ (us : List Val × (List Val × (List Val × (List Val × Unit {0})))). ent 𝓤 (W.pre ((κs, qs, y.0.2, a, us), y.1)) (WpFn 𝓤 𝓛.H 𝓣.C 𝓣.Λ (here A B) (W.args ((κs, qs, y.0.2, a, us), y.1)) (W.post ((κs, qs, y.0.2, a, us), y.1))))
    (sym (λ j. (list_is j, (i_is j, (f.1 j, (s.1 j, tt))))))
    (walk A B 𝓛 𝓜.mem 𝓡.returns LA LB 𝓣.C 𝓣.Λ (framed 𝓤 𝓛.H 𝓜 𝓣)
    (lend.met 𝓤 𝓛 𝓜 𝓡 (code.calls-starlark_vec2::vec2::Vec2::get_mut 𝓡.env wired) A B LA LB)
    (put.met 𝓤 𝓛 𝓜 𝓡 (code.calls-starlark_callers::lent::put::put_pair 𝓡.env wired) A B LA LB)
    κs.0 κs.1.0 κs.1.1.0 qs.0 qs.1.0 qs.1.1.0 y.0.2 a.0 a.1.0 are.1.0.1 a.1.1.0 a.1.1.1.0 f.0 f.2 s.0 s.2))
