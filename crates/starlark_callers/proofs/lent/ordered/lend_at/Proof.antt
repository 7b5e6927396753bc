-- `lend_at` meets its contract, at any key and value types: the map is lent for good to the call that gives its entry, that
-- to the one that lends the value, and what this gives is handed on. Assumes `Logic`.
use Rattle.core.specs.contracts.result.Result as RS
use Rattle.std.specs.declared.cmp.Eq as Eq
use Rattle.std.specs.declared.cmp.PartialEq as PartialEq
use Rattle.std.specs.declared.hash.Hash as Hash
use Rattle.starlark_callers.proofs.Walks.{◌≡◌, refl, sym, subst, List, [], ◌∷◌, Ura, Fn, Args, Dict, a_type, dcons, dnil, named, inst_fn, Val, vptr, SProp, ent, emp, id⊢, ex_e, snd∗, Lft, Share, ftrue, flft, Memory, Routine, Calls, Loops, WpFn, Logic, sem, ◌⊑◌, Fun, fact, fact_i, tables, FmC, ‵, raw, ◌⊛◌, some, later, ◌$◌, ◌∵◌, !, qed, move, keep, drop, use0, use1, use2, split, split3, join, pick, fsplit, fsplit3, fjoin, suffices, frame, await, done, stop, addr, of_opd, and_then, no_more, returns, enter, alloc_all, pass_all, free_all, look_at, get, through, sets, lands_as, no, RattleType, owns, Is, shows, param, bounded, layout, Laws, param_laws, MutBor, MutRef, mut_vals, mut_Tells, plain, types_at, mut_ref_to, nothing, heard, peeks, Tuple, tuple_laws, calls_at, Clauses, Ended, ensured, lasts, triple_of, Contract, Triple, framed, Stays, stay_dropped, walk_of, ends_at, Goes-spent_ref, Goes-blank, Good, proved_at, None, Result, IfOk, IfErr, OnOk, OnErr, Hashed, NoRoom, lone_value}
use Rattle.starlark_columns.proofs.LogicNames.{result_laws, unwrap_or, named_lft, IsOk, IsErr, name_if_ok}
use Rattle.starlark_hash.proofs.hashed.Hashed.TheLaws as hashed_laws
use Rattle.starlark_hash.proofs.no_room.NoRoom.TheLaws as room_laws
use Rattle.starlark_hash.specs.contracts.hashed.Hashed as H
use Rattle.starlark_hash.specs.contracts.no_room.NoRoom as N
use Rattle.starlark_hash.specs.HashValue.{hash_of, key_of}
use Rattle.starlark_hash.specs.Lookup.{found}
use Rattle.starlark_small.proofs.entry.Entry.TheLaws as entry_laws
use Rattle.starlark_small.proofs.entry.Entry.or_insert.Symbol.{name as #puts}
use Rattle.starlark_small.proofs.entry.Entry.or_insert.Met as puts
use Rattle.starlark_small.specs.Lookup.{get as found_in}
use Rattle.starlark_small.specs.Insert.{IsRefused}
use Rattle.starlark_small.specs.Map.{Map, own_hashed}
use Rattle.starlark_small.specs.MapEntry.{entry_lends, entry_value_of, map_of_entry, Enters as IsEntered, IsPut, Puts as HasPut, Refuses, ShowsOrGives}
use Rattle.starlark_small.specs.contracts.entry.Entry as R
use Rattle.starlark_small.specs.contracts.entry.Entry.or_insert as p
use Rattle.starlark_small.specs.contracts.small_map.SmallMap as S
use Rattle.starlark_small.specs.declared.entry.Entry.{Entry}
use Rattle.starlark_sets.proofs.ordered_map.OrderedMap.entry.Symbol.{name as #enters}
use Rattle.starlark_sets.proofs.ordered_map.OrderedMap.entry.Met as enters
use Rattle.starlark_sets.specs.Lend.{follows_entry}
use Rattle.starlark_sets.specs.contracts.ordered_map.OrderedMap as O
use Rattle.starlark_sets.specs.contracts.ordered_map.OrderedMap.entry as e
use Rattle.starlark_callers.proofs.Steps.{good_value, mut_laws}
use Rattle.starlark_callers.proofs.OrderedLent.{held, put_at, refused_at, absent_at, handed_back_at, so_then}
use Rattle.starlark_callers.specs.Lend.{lends_at, IsPutUnder}
use Rattle.starlark_callers.specs.contracts.lent.ordered.lend_at as F
use Rattle.starlark_callers.specs.contracts.lent.ordered.lend_at.Key.{name as #self}
use Rattle.starlark_callers.proofs.lent.ordered.lend_at.Statement.{statement}
use Rattle.starlark_callers.proofs.lent.ordered.lend_at.Code as code

module _ (K V : RattleType) (E : Eq.Ghosts K.Denot) (dE : Dict) (Q : PartialEq.Ghosts K.Denot) (dQ : Dict) (G : Hash.Ghosts K.Denot) (dG dD dV : Dict) where
  abbrev args : Args
  args = bounded (a_type ∷ a_type ∷ []) (K, (V, tt)) (dcons dE (dcons dQ (dcons dG (dcons dD (dcons dV dnil)))))

  abbrev enters_args : Args
  enters_args = bounded (a_type ∷ a_type ∷ []) (K, (V, tt)) (dcons dE (dcons dQ (dcons dG (dcons dD dnil))))

  abbrev puts_args : Args
  puts_args = bounded (a_type ∷ a_type ∷ []) (K, (V, tt)) (dcons dE (dcons dQ (dcons dV dnil)))

  abbrev here : Fn
  here = inst_fn args code.function

  abbrev ended : Ended
  ended = F.ended K V E dE Q dQ G dG dD dV

  abbrev K' : RattleType
  K' = param 0 K

  abbrev V' : RattleType
  V' = param 1 V

  abbrev Outer : RattleType
  Outer = O.the_row K' V' Q

  abbrev Inner : RattleType
  Inner = S.the_row K' V' Q

  abbrev Parts : RattleType
  Parts = Tuple (H.the_row K' ∷ V' ∷ [])

  abbrev Back : RattleType
  Back = N.the_row Parts

  abbrev Out : Type 0
  Out = Result (MutBor V.Denot) (NoRoom (Hashed K.Denot × V.Denot))

  abbrev back_laws : Laws K → Laws V → Laws Back
  back_laws LK LV = room_laws.the_row_laws Parts (tuple_laws (H.the_row K' ∷ V' ∷ []) (hashed_laws.the_row_laws K' (param_laws 0 K LK), (param_laws 1 V LV, tt)))

  abbrev stayed : Stays ended.signature.params ended.kept
  stayed = (stay_dropped (mut_ref_to (0 ∷ []) tt (plain (λ _. Outer))) no, (stay_dropped (plain (λ _. K')) no, (stay_dropped (plain (λ _. V')) no, tt)))

  module _ {M : Type 1} {𝓤 : Ura M} (𝓛 : Logic 𝓤) (at_mem : Memory → SProp 𝓤) (run : Routine → Fun 𝓤) where
    abbrev spec : Clauses 𝓤 ended
    spec = F.clauses K V E dE Q dQ G dG dD dV 𝓛 at_mem run

    abbrev Enters : Contract 𝓤
    Enters = triple_of 𝓛 (e.signature K V E dE Q dQ G dG dD) (e.spec K V E dE Q dQ G dG dD 𝓛 at_mem run)

    abbrev Puts : Contract 𝓤
    Puts = triple_of 𝓛 (p.signature K V E dE Q dQ dV) (p.spec K V E dE Q dQ dV 𝓛 at_mem run)

    module _ (LK : Laws K) (LV : Laws V) (C : Calls 𝓤 𝓛.H) (Λ : Loops 𝓤 𝓛.H) (fm : FmC 𝓤 𝓛.H 𝓛.laws C)
        (gives : Triple 𝓤 (C (#enters enters_args)) Enters) (lends : Triple 𝓤 (C (#puts puts_args)) Puts)
        (κ κK κV : Lft) (q qK qV : Share) (bounds : (κ ⊑ κK) × ((κ ⊑ κV) × Unit {0})) (r : MutBor (Map K.Denot V.Denot)) (key : K.Denot) (value : V.Denot)
        (k : Val) (k_good : Good (layout K') k) (v : Val) (v_good : Good (layout V') v) where
      abbrev bound : (walk_of 𝓛 ended stayed spec).Ghost
      bound = (((κ, (κK, (κV, tt))), (q, (qK, (qV, tt))), bounds, (r, (key, (value, tt))), (mut_vals r, (k ∷ [], (v ∷ [], tt)))), tt)

      abbrev Post : Val → SProp 𝓤
      Post = (walk_of 𝓛 ended stayed spec).post bound

      abbrev Held : RattleType
      Held = R.the_row (named_lft 3 0 tt (κ, (κK, (κV, tt)))) K' V' Q

      abbrev Ref : RattleType
      Ref = MutRef (named 0) κ V'

      abbrev Lent : RattleType
      Lent = RS.the_row Ref Back

      walk : ent 𝓤 ((walk_of 𝓛 ended stayed spec).pre bound) (WpFn 𝓤 𝓛.H C Λ here (vptr r.ref_ptr.0 r.ref_ptr.1 ∷ k ∷ v ∷ []) Post)
      walk =
          let m = r.now in let γ = r.ghost_name in let under = own_hashed G.hash_input key in
          qed 𝓛 (((‵ (flft κ q) ⊛ ‵ (flft κK qK) ⊛ ‵ (flft κV qV) ⊛ ‵ ftrue) ⊛ ‵ (owns (types_at ended.signature.params bound.0.0) bound.0.3 bound.0.4))
          ∷ (raw (fact 𝓤 (κK ⊑ K.lives)) ⊛ raw (fact 𝓤 (κV ⊑ V.lives)) ⊛ ‵ ftrue) ∷ []) ∵
          move ! (1 ∷ []) $ split3 ! $ heard ! (κK ⊑ K.lives) (λ lK. heard ! (κV ⊑ V.lives) (λ lV. drop ! $
          split ! $ move ! (1 ∷ []) $ fsplit3 ! $ move ! (2 ∷ []) $ fsplit ! $ keep ! (4 ∷ 2 ∷ 3 ∷ 0 ∷ []) $
          -- [the tokens; the map; the key; the value]
          enter ! C Λ here (vptr r.ref_ptr.0 r.ref_ptr.1 ∷ k ∷ v ∷ []) _ $ alloc_all ! (λ l. pass_all ! refl ((tt, tt), (k_good, (v_good, tt))) $
          sets ! (addr ! (through ! refl (stop !))) refl (tt, tt) $ sets ! (of_opd ! (get ! refl)) refl k_good $
          let z : Enters.Ghost = (((κ, (κK, (κV, tt))), (q, (qK, (qV, tt))), bounds, (r, (key, tt)), (mut_vals r, (k ∷ [], tt))), tt) in
          nothing ! $ move ! (3 ∷ 0 ∷ []) $ fjoin ! $ move ! (2 ∷ 0 ∷ []) $ fjoin ! $ move ! (1 ∷ 0 ∷ []) $ join ! $
          nothing ! $ use0 𝓛 (raw (fact 𝓤 (κV ⊑ V.lives))) (fact_i 𝓤 _ (emp 𝓤) lV) $ join ! $ use0 𝓛 (raw (fact 𝓤 (κK ⊑ K.lives))) (fact_i 𝓤 _ (emp 𝓤) lK) $ join ! $ move ! (1 ∷ 0 ∷ []) $ join ! $
          use1 𝓛 (raw (Enters.pre z)) (id⊢ 𝓤 _) $
          calls_at ! fm Enters gives z (and_then ! (get ! refl) (and_then ! (get ! refl) (no_more !))) (λ t.
          use1 𝓛 (later (some (λ (y : Entry K.Denot V.Denot Q). ((‵ (flft κ q) ⊛ ‵ (flft κK qK) ⊛ ‵ (flft κV qV) ⊛ ‵ ftrue) ⊛ ‵ (Held.own_val y (t ∷ [])))
          ⊛ raw (ensured 𝓛 (e.ended K V E dE Q dQ G dG dD) (e.clauses K V E dE Q dQ G dG dD 𝓛 at_mem run) z.0.0 z.0.3 tt y)))) (id⊢ 𝓤 _) $ await ! tt $ pick ! (λ y. split ! $ move ! (1 ∷ []) $
          use1 𝓛 (‵ (follows_entry K' V' Q r y) ⊛ raw (fact 𝓤 (IsEntered Q.eq m under y))) (ex_e 𝓤 _ (λ ws. snd∗ 𝓤 (sem 𝓛 (lasts (e.ended K V E dE Q dQ G dG dD) z.0.0 z.0.3 ws)) _)) $ split ! $
          move ! (1 ∷ []) $ heard ! (IsEntered Q.eq m under y) (λ is. move ! (1 ∷ []) $ split ! $ move ! (1 ∷ []) $
          -- [the entry; the tokens; what the ordered map follows; the value]
          peeks ! Held (Is Held) (shows 𝓛 Held) y (t ∷ []) (λ is_t.
          lands_as ! refl refl (good_value 𝓛 Held (entry_laws.the_row_laws (named_lft 3 0 tt (κ, (κK, (κV, tt)))) K' V' Q (param_laws 0 K LK) (param_laws 1 V LV)) y t is_t) $
          sets ! (of_opd ! (get ! refl)) refl v_good $
          let z2 : Puts.Ghost = (((κ, (κK, (κV, tt))), (q, (qK, (qV, tt))), bounds, (y, (value, tt)), (t ∷ [], (v ∷ [], tt))), tt) in
          nothing ! $ move ! (4 ∷ 0 ∷ []) $ fjoin ! $ move ! (1 ∷ 0 ∷ []) $ fjoin ! $ move ! (1 ∷ 0 ∷ []) $ join ! $
          nothing ! $ use0 𝓛 (raw (fact 𝓤 (κV ⊑ V.lives))) (fact_i 𝓤 _ (emp 𝓤) lV) $ join ! $ use0 𝓛 (raw (fact 𝓤 (κK ⊑ K.lives))) (fact_i 𝓤 _ (emp 𝓤) lK) $ join ! $ move ! (1 ∷ 0 ∷ []) $ join ! $
          use1 𝓛 (raw (Puts.pre z2)) (id⊢ 𝓤 _) $
          calls_at ! fm Puts lends z2 (and_then ! (get ! refl) (and_then ! (get ! refl) (no_more !))) (λ u.
          use1 𝓛 (later (some (λ (h : Out). ((‵ (flft κ q) ⊛ ‵ (flft κK qK) ⊛ ‵ (flft κV qV) ⊛ ‵ ftrue) ⊛ ‵ (Lent.own_val h (u ∷ [])))
          ⊛ raw (ensured 𝓛 (p.ended K V E dE Q dQ dV) (p.clauses K V E dE Q dQ dV 𝓛 at_mem run) z2.0.0 z2.0.3 tt h)))) (id⊢ 𝓤 _) $ await ! tt $ pick ! (λ h. split ! $ move ! (1 ∷ []) $
          use1 𝓛 (‵ (entry_lends K' V' y h) ⊛ raw (fact 𝓤 (ShowsOrGives (λ w. w ≡ value) y h)) ⊛ raw (fact 𝓤 (IfOk h (λ x. x.now ≡ unwrap_or (entry_value_of y) value))) ⊛ raw (fact 𝓤 (OnErr h ((map_of_entry y).now.room ≡ 0))))
          (ex_e 𝓤 _ (λ ws. snd∗ 𝓤 (sem 𝓛 (lasts (p.ended K V E dE Q dQ dV) z2.0.0 z2.0.3 ws)) _)) $ split3 ! $
          move ! (1 ∷ 2 ∷ []) $ heard ! (ShowsOrGives (λ w. w ≡ value) y h) (λ may_give. split ! $ heard ! (IfOk h (λ x. x.now ≡ unwrap_or (entry_value_of y) value)) (λ shown. heard ! (OnErr h ((map_of_entry y).now.room ≡ 0)) (λ full.
          -- [what the map inside follows; the tokens with what is lent; what the ordered map follows]
          move ! (2 ∷ 0 ∷ []) $ use2 𝓛 (‵ (lends_at K' V' Q r under h))
          (so_then 𝓛 Outer Inner V' (λ n. n) γ (map_of_entry y).ghost_name (name_if_ok (λ x. x.ghost_name) h)
          (λ w n. OnOk h (IsPut y w n) × (IsOk h → HasPut y w n)) (λ w n. IsOk h → IsPutUnder Q.eq m n under w) (λ n. OnErr h (IsRefused (map_of_entry y).now n) × (IsErr h → Refuses y n)) (λ n. OnErr h (IsRefused m n))
          (λ w n. put_at Q.eq m under y is h w n) (λ n. refused_at Q.eq m under y is.entry h n)) $
          move ! (1 ∷ []) $ split ! $ move ! (1 ∷ []) $
          -- [what is lent; the tokens; what the ordered map follows]
          peeks ! Lent (Is Lent) (shows 𝓛 Lent) h (u ∷ []) (λ is_u.
          lands_as ! refl refl (good_value 𝓛 Lent (result_laws Ref Back (mut_laws κ V' (param_laws 1 V LV)) (back_laws LK LV)) h u is_u) $
          returns ! (look_at ! 0 refl) $ free_all ! refl $
          suffices ! _ (ends_at 𝓛 ended stayed spec bound u h (tt, (tt, (tt, tt))) (tt, (tt, (tt, tt)))) $
          nothing ! $ nothing ! $ fjoin ! $ nothing ! $ fjoin ! $ nothing ! $ fjoin ! $ join ! $ move ! (1 ∷ 0 ∷ []) $ join ! $ frame ! $
          use0 𝓛 (raw (fact 𝓤 (IfErr h (λ x. x.0 ≡ (under, value))))) (fact_i 𝓤 _ (emp 𝓤) (handed_back_at Q.eq m under value y is.entry h may_give)) $
          use0 𝓛 (raw (fact 𝓤 (OnErr h (m.room ≡ 0)))) (fact_i 𝓤 _ (emp 𝓤) (subst (λ (n : Map K.Denot V.Denot). OnErr h (n.room ≡ 0)) (held Q.eq m under y is.entry) full)) $
          use0 𝓛 (raw (fact 𝓤 (OnErr h (found (Q.eq (key_of under)) (hash_of under) m.entries ≡ None)))) (fact_i 𝓤 _ (emp 𝓤) (absent_at Q.eq m under value y is.entry h may_give)) $
          use0 𝓛 (raw (fact 𝓤 (IfOk h (λ x. x.now ≡ unwrap_or (found_in Q.eq G.hash_input m key) value)))) (fact_i 𝓤 _ (emp 𝓤) (subst (λ o. IfOk h (λ x. x.now ≡ unwrap_or o value)) is.value shown)) $
          move ! (4 ∷ []) $ done !)))))))))))))

pub lend_at_spec : {M : Type 1} → statement M
lend_at_spec 𝓤 𝓛 𝓜 𝓡 wired K V LK LV E dE Q dQ G dG dD dV is_eq is_partial is_hash is_drop is_dropped =
    let 𝓣 = tables 𝓤 𝓛.H 𝓜 𝓡 𝓡.env in let c = F.clauses K V E dE Q dQ G dG dD dV 𝓛 𝓜.mem 𝓡.returns in
    proved_at 𝓛 (ended K V E dE Q dQ G dG dD dV) (stayed K V E dE Q dQ G dG dD dV) c 𝓜 𝓡
    (Goes-spent_ref 𝓛 3 (0 ∷ []) tt (plain (λ _. Outer K V E dE Q dQ G dG dD dV)), (Goes-blank 𝓛 3 (plain (λ _. K' K V E dE Q dQ G dG dD dV)) no (λ κs x f. tt), (Goes-blank 𝓛 3 (plain (λ _. V' K V E dE Q dQ G dG dD dV)) no (λ κs x f. tt), tt)))
    (#self (args K V E dE Q dQ G dG dD dV)) (here K V E dE Q dQ G dG dD dV) (code.unfolded 𝓤 𝓛.H 𝓜 𝓡 wired (K, (V, tt)) dE dQ dG dD dV) (λ y are.
    let κs = y.0.0 in let qs = y.0.1 in let a = y.0.3 in let vss = y.0.4 in let W = walk_of 𝓛 (ended K V E dE Q dQ G dG dD dV) (stayed K V E dE Q dQ G dG dD dV) c in
    let map_is = mut_Tells (named 0) κs.0 (Outer K V E dE Q dQ G dG dD dV) a.0 vss.0 are.0 in
    let k = lone_value 𝓛 (K' K V E dE Q dQ G dG dD dV) (param_laws 0 K LK) a.1.0 vss.1.0 are.1.0 in
    let v = lone_value 𝓛 (V' K V E dE Q dQ G dG dD dV) (param_laws 1 V LV) a.1.1.0 vss.1.1.0 are.1.1.0 in
    subst (λ (us : List Val × (List Val × (List Val × Unit {0}))). ent 𝓤 (W.pre ((κs, qs, y.0.2, a, us), y.1)) (WpFn 𝓤 𝓛.H 𝓣.C 𝓣.Λ (here K V E dE Q dQ G dG dD dV) (W.args ((κs, qs, y.0.2, a, us), y.1)) (W.post ((κs, qs, y.0.2, a, us), y.1))))
    (sym (λ j. (map_is j, (k.1 j, (v.1 j, tt)))))
    (walk K V E dE Q dQ G dG dD dV 𝓛 𝓜.mem 𝓡.returns LK LV 𝓣.C 𝓣.Λ (framed 𝓤 𝓛.H 𝓜 𝓣)
    (enters.met 𝓤 𝓛 𝓜 𝓡 (code.calls-starlark_sets::ordered_map::OrderedMap::entry 𝓡.env wired) K V LK LV E dE Q dQ G dG dD is_eq is_partial is_hash is_drop)
    (puts.met 𝓤 𝓛 𝓜 𝓡 (code.calls-starlark_small::entry::Entry::or_insert 𝓡.env wired) K V LK LV E dE Q dQ dV is_eq is_partial is_dropped)
    κs.0 κs.1.0 κs.1.1.0 qs.0 qs.1.0 qs.1.1.0 y.0.2 a.0 a.1.0 a.1.1.0 k.0 k.2 v.0 v.2))
