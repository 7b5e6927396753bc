-- The contract of a call that changes a set and lends an element of it, whatever changes it and whatever is lent. The set is lent
-- to the call that changes it, and comes back; it is then written no more, and the element is lent. Assumes `Logic`.
use Rattle.starlark_columns.proofs.LogicNames.{◌≡◌, refl, sym, ap, subst, ℕ, List, [], ◌∷◌, none, Ura, Fn, named, Ty, Val, vptr, SProp, ent, sep, id⊢, ex_e, snd∗, Lft, GName, Share, ftrue, flft, WpFn, Logic, sem, ◌⊑◌, ⊑_trans, meet_⊑_right, fact, tables, ‵, raw, ◌⊛◌, some, later, ◌$◌, ◌∵◌, !, qed, by, move, keep, drop, use1, use2, use3, split, split3, join, pick, fsplit, fsplit3, fjoin, fpick, fpack, done, such_by, follows_by, Item, await, rewrite, stop, addr, of_opd, and_then, no_more, returns, enter, alloc_all, pass_all, free_all, look_at, get, through, sets, lands_as, no, yes, RattleType, owns, follows_so, Is, shows, param, layout, Laws, param_laws, Bor, MutBor, MutRef, ShrRef, mut_vals, mut_Tells, shr_vals, shr_Tells, plain, types_at, mut_ref_to, nothing, heard, only, peeks, calls_at, Clauses, Ended, closing, Lasts, ensured, lasts, Meets, triple_of, Contract, Triple, framed, walk_of, Goes-spent_ref, Goes-blank, Good, proved_at, ⊤, tells, spent, drops, leaves}
use contract.Lifetimes.{Lfts}
use contract.Running.{Running, MachineTables}
use denote.Signature.{Slot, shr_ref_to}
use denote.Triple.End.{Kepts}
use mir.Syntax.{Callee, ty_ref, mut, imm, local, value_local, erased, place, deref, copy, rv_opd, addr_of, assign, call, seq, return}
use prog.Model.{Model}
use prog.Wp.{Closed}
use Rattle.starlark_columns.proofs.LoneValue.{lone_value}
use Rattle.starlark_columns.proofs.ProofSteps.{Kept, within, good_value, lent_within, back_again}

-- a weaker statement holds of a value at its end
module _ {M : Type 1} {𝓤 : Ura M} (𝓛 : Logic 𝓤) (R : RattleType) (γ : GName) (P Q : R.Denot → Type 0) (weaker : (n : R.Denot) → P n → Q n) where
  ends_weaker : ent 𝓤 (sem 𝓛 (follows_so R R γ none (λ _ _. ⊤) P)) (sem 𝓛 (follows_so R R γ none (λ _ _. ⊤) Q))
  unfolding such_by follows_by
  ends_weaker = qed 𝓛 (‵ (follows_so R R γ none (λ _ _. ⊤) P) ∷ []) ∵ fpick ! (λ s. fpack ! ((s : (R.Denot → R.Denot) × R.Denot) × ((w : R.Denot) → ⊤) × Q s.1) (λ s. follows_by R.Denot R.Denot R.coded.code R.coded.code γ none s.0.0 s.0.1) (s.0, s.1, weaker s.0.1 s.2) $ done !)

-- what is said of a call: the types of the elements, of the set, of what the change returns and of what is lent, and what each of
-- the three calls says
pub record Words : Type 2 where
  pub T : RattleType
  pub R : RattleType
  pub Index : RattleType
  pub Out : Lfts 2 → RattleType
  pub ρ : Ty
  pub laws : Laws T
  pub index_laws : Laws Index
  pub out_laws : (κs : Lfts 2) → Laws (Out κs)
  pub lands : (κs : Lfts 2) (v : Val) → Good (layout (Out κs)) v → Good ρ v
  pub Puts : R.Denot → T.Denot → Index.Denot → R.Denot → Type 0
  pub Within : R.Denot → Index.Denot → Type 0
  pub Shows : (κs : Lfts 2) → R.Denot → Index.Denot → (Out κs).Denot → Type 0
  pub Ends : (κs : Lfts 2) → R.Denot → T.Denot → (Out κs).Denot → R.Denot → Type 0
  pub Tells : (κs : Lfts 2) → R.Denot → T.Denot → (Out κs).Denot → Type 0
  pub within : (old : R.Denot) (value : T.Denot) (index : Index.Denot) (new : R.Denot) → Puts old value index new → Within new index
  pub ends : (κs : Lfts 2) (old : R.Denot) (value : T.Denot) (index : Index.Denot) (new : R.Denot) (y : (Out κs).Denot) → Puts old value index new → Shows κs new index y → Ends κs old value y new
  pub tells : (κs : Lfts 2) (old : R.Denot) (value : T.Denot) (index : Index.Denot) (new : R.Denot) (y : (Out κs).Denot) → Puts old value index new → Shows κs new index y → Tells κs old value y

abbrev ending : (params : List (Slot 2)) → Slot 2 → Kepts params → Ended
ending params result kept = record {
  signature = record { lifetimes = 2; outlives = record { long = 1; long_ok = tt; short = named 0; short_ok = tt } ∷ []; params = params; result = result };
  kept = kept;
}

module _ (W : Words) where
  open W use {T, R, Index, Out}

  abbrev T' : RattleType
  T' = param 0 T

  abbrev lent : Slot 2
  lent = mut_ref_to (0 ∷ []) tt (plain (λ _. R))

  abbrev frozen : Slot 2
  frozen = shr_ref_to (0 ∷ []) tt (plain (λ _. R))

  abbrev Putting : Ended
  Putting = ending (lent ∷ plain (λ _. T') ∷ []) (plain (λ _. Index)) (yes, (no, tt))

  abbrev Freezing : Ended
  Freezing = ending (lent ∷ []) frozen (no, tt)

  abbrev Showing : Ended
  Showing = ending (frozen ∷ plain (λ _. Index) ∷ []) (plain Out) (no, (no, tt))

  abbrev ended : Ended
  ended = ending (lent ∷ plain (λ _. T') ∷ []) (plain Out) (no, (no, tt))

  -- the code, for a set that is written as σ behind a reference and as δ where it is read
  abbrev pub here : (σ δ : Ty) → Callee → Callee → Callee → Fn
  here σ δ put freeze show = record {
    lifetimes = 1;
    outlives = (1, 0) ∷ [];
    ty_params = [];
    givens = 0;
    params = 2;
    locals = local W.ρ value_local ∷ local (ty_ref (named 0) mut σ) value_local ∷ local (layout T) value_local ∷ local (layout Index) value_local
        ∷ local (ty_ref erased mut σ) value_local ∷ local (layout T) value_local ∷ local (ty_ref erased imm σ) value_local ∷ local (ty_ref erased mut σ) value_local
        ∷ local (layout Index) value_local ∷ [];
    body = seq (assign (place 4 []) (addr_of (place 1 (deref δ ∷ []))))
        (seq (assign (place 5 []) (rv_opd (copy (place 2 []))))
        (seq (call put (copy (place 4 []) ∷ copy (place 5 []) ∷ []) (place 3 []))
        (seq (assign (place 7 []) (addr_of (place 1 (deref δ ∷ []))))
        (seq (call freeze (copy (place 7 []) ∷ []) (place 6 []))
        (seq (assign (place 8 []) (rv_opd (copy (place 3 []))))
        (seq (call show (copy (place 6 []) ∷ copy (place 8 []) ∷ []) (place 0 [])) return))))));
  }

  module _ {M : Type 1} {𝓤 : Ura M} (𝓛 : Logic 𝓤) (says : R.Denot → T.Denot → Index.Denot → R.Denot → SProp 𝓤) where
    abbrev Lives : Lfts 2 → SProp 𝓤
    Lives κs = fact 𝓤 (κs.1.0 ⊑ T.lives)

    abbrev putting : Clauses 𝓤 Putting
    putting κs a = record { ghost = Unit {0}; requires = λ _. sep 𝓤 (Lives κs) (sem 𝓛 ftrue); ensures = λ _ r e. says a.0.now a.1.0 r e.0.now }

    abbrev freezing : Clauses 𝓤 Freezing
    freezing κs a = record {
      ghost = Unit {0};
      requires = λ _. sep 𝓤 (Lives κs) (sem 𝓛 ftrue);
      ensures = λ _ r e. sep 𝓤 (sem 𝓛 (follows_so R R a.0.ghost_name none (λ _ _. ⊤) (λ n. n ≡ a.0.now))) (fact 𝓤 (r.now ≡ a.0.now));
    }

    abbrev showing : Clauses 𝓤 Showing
    showing κs a = record { ghost = Unit {0}; requires = λ _. sep 𝓤 (Lives κs) (fact 𝓤 (W.Within a.0.now a.1.0)); ensures = λ _ r e. fact 𝓤 (W.Shows κs a.0.now a.1.0 r) }

    abbrev spec : Clauses 𝓤 ended
    spec κs a = record {
      ghost = Unit {0};
      requires = λ _. sep 𝓤 (Lives κs) (sem 𝓛 ftrue);
      ensures = λ _ r e. sep 𝓤 (sem 𝓛 (follows_so R R a.0.ghost_name none (λ _ _. ⊤) (W.Ends κs a.0.now a.1.0 r))) (fact 𝓤 (W.Tells κs a.0.now a.1.0 r));
    }

    abbrev pub Puts : Contract 𝓤
    Puts = triple_of 𝓛 Putting.signature (closing 𝓛 Putting putting)

    abbrev pub Freezes : Contract 𝓤
    Freezes = triple_of 𝓛 Freezing.signature (closing 𝓛 Freezing freezing)

    abbrev pub Shows : Contract 𝓤
    Shows = triple_of 𝓛 Showing.signature (closing 𝓛 Showing showing)

    module _ (𝓜 : Model 𝓤 𝓛.H) (𝓡 : Running 𝓤 𝓛.H 𝓜)
        (said : (old : R.Denot) (value : T.Denot) (index : Index.Denot) (new : R.Denot) → ent 𝓤 (says old value index new) (fact 𝓤 (W.Puts old value index new))) where
      abbrev 𝓣 : MachineTables 𝓤 𝓛.H 𝓜
      𝓣 = tables 𝓤 𝓛.H 𝓜 𝓡 𝓡.env

      pub meets : (σ δ : Ty) {put freeze show : Callee} (self : Callee) → Closed 𝓤 𝓛.H 𝓣.C 𝓣.Λ self (here σ δ put freeze show)
          → Triple 𝓤 (𝓣.C put) Puts → Triple 𝓤 (𝓣.C freeze) Freezes → Triple 𝓤 (𝓣.C show) Shows → Meets 𝓛 ended.signature (𝓣.C self) (closing 𝓛 ended spec)
      meets σ δ {put} {freeze} {show} self closed puts freezes shows_it =
          let fn : Fn = here σ δ put freeze show in let fm = framed 𝓤 𝓛.H 𝓜 𝓣 in let hs = drops ended in let Walk : Contract 𝓤 = walk_of 𝓛 ended hs spec in
          proved_at 𝓛 ended hs spec 𝓜 𝓡 (Goes-spent_ref 𝓛 2 (0 ∷ []) tt (plain (λ _. R)), (Goes-blank 𝓛 2 (plain (λ _. T')) no (λ κs x f. tt), tt)) self fn closed (λ given are.
          let κs = given.0.0 in let bounds = given.0.2 in let a = given.0.3 in let r : MutBor R.Denot = a.0 in let m : R.Denot = r.now in let γ : GName = r.ghost_name in let value : T.Denot = a.1.0 in
          let κ : Lft = κs.0 in let κT : Lft = κs.1.0 in let q : Share = given.0.1.0 in let qT : Share = given.0.1.1.0 in let qq : Share = within 𝓛 R κ q r in let Lives : Type 0 = κT ⊑ T.lives in
          let one = lone_value 𝓛 T' (param_laws 0 T W.laws) value given.0.4.1.0 are.1.0 in let k : Val = one.0 in let self_is = mut_Tells (named 0) κ R r given.0.4.0 are.0 in
          let bound : Walk.Ghost = ((κs, (q, (qT, tt)), bounds, (r, (value, tt)), (mut_vals r, (k ∷ [], tt))), given.1) in
          let tokens : Item 𝓤 = ‵ (flft κ q) ⊛ ‵ (flft κT qT) ⊛ ‵ ftrue in let Frozen : RattleType = ShrRef (named 0) κ R in
          subst (λ (us : List Val × (List Val × Unit {0})). ent 𝓤 (Walk.pre ((κs, given.0.1, bounds, a, us), given.1))
          (WpFn 𝓤 𝓛.H 𝓣.C 𝓣.Λ fn (Walk.args ((κs, given.0.1, bounds, a, us), given.1)) (Walk.post ((κs, given.0.1, bounds, a, us), given.1))))
          (sym (λ j. (self_is j, (one.1 j, tt)))) (
          qed 𝓛 ((tokens ⊛ ‵ (owns (types_at ended.signature.params κs) bound.0.3 bound.0.4)) ∷ raw (fact 𝓤 Lives) ∷ ‵ ftrue ∷ []) ∵
          move ! (1 ∷ []) $ heard ! Lives (λ lT. split ! $ split3 ! $ move ! (3 ∷ []) $ fsplit3 ! $ keep ! (3 ∷ 4 ∷ 0 ∷ 1 ∷ []) $
          -- [the tokens of κ, κT; self; the element]
          enter ! 𝓣.C 𝓣.Λ fn (vptr r.ref_ptr.0 r.ref_ptr.1 ∷ k ∷ []) (Walk.post bound) $ alloc_all ! (λ l. pass_all ! refl ((tt, tt), (one.2, tt)) $
          sets ! (addr ! (through ! refl (stop !))) refl (tt, tt) $ sets ! (of_opd ! (get ! refl)) refl one.2 $
          -- self is lent again, for a lifetime within κ
          move ! (0 ∷ 2 ∷ []) $ use2 𝓛 (later (some (λ (α : ℕ). some (λ (δ' : GName). ‵ (flft (α ∷ κ) qq) ⊛ ‵ ((MutRef (named 0) (α ∷ κ) R).own_val (record r { ghost_name = δ' }) (mut_vals r)) ⊛ raw (Kept 𝓛 R κ q r α δ')))))
          (lent_within 𝓛 R κ q r) $ await ! tt $ pick ! (λ α. pick ! (λ δ'. split3 ! $
          -- [the token of ακ; the loan; what the lender keeps; κT; the element]
          let ακ : Lft = α ∷ κ in let loan : MutBor R.Denot = record r { ghost_name = δ' } in
          let z : Puts.Ghost = (((ακ, (κT, tt)), (qq, (qT, tt)), (⊑_trans ακ κ κT (meet_⊑_right (α ∷ []) κ) bounds.0, tt), (loan, (value, tt)), (mut_vals loan, (k ∷ [], tt))), tt) in
          nothing ! $ move ! (5 ∷ 0 ∷ []) $ fjoin ! $ move ! (2 ∷ 0 ∷ []) $ fjoin ! $ nothing ! $ move ! (4 ∷ 0 ∷ []) $ join ! $ move ! (2 ∷ 0 ∷ []) $ join ! $ join ! $
          nothing ! $ tells ! Lives lT $ join ! $ move ! (1 ∷ 0 ∷ []) $ join ! $ use1 𝓛 (raw (Puts.pre z)) (id⊢ 𝓤 _) $
          calls_at ! fm Puts puts z (and_then ! (get ! refl) (and_then ! (get ! refl) (no_more !))) (λ u.
          use1 𝓛 (later (some (λ (g : Index.Denot). ((‵ (flft ακ qq) ⊛ ‵ (flft κT qT) ⊛ ‵ ftrue) ⊛ ‵ (Index.own_val g (u ∷ [])))
          ⊛ some (λ (ws : Lasts Putting (z.0.0) z.0.3). ‵ (lasts Putting z.0.0 z.0.3 ws) ⊛ raw (says m value g ws.0))))) (id⊢ 𝓤 _) $ await ! tt $
          pick ! (λ g. split ! $ move ! (1 ∷ []) $ pick ! (λ ws. split ! $ fsplit ! $ fsplit ! $ move ! (3 ∷ []) $
          let mm : R.Denot = ws.0 in let self' : MutBor R.Denot = record r { now = mm } in
          use1 𝓛 (raw (fact 𝓤 (W.Puts m value g mm))) (said m value g mm) $ heard ! (W.Puts m value g mm) (λ answers. move ! (3 ∷ []) $ split ! $ split3 ! $
          -- [the tokens of ακ, κT; nothing; the index; what the loan ends as; ..; what the lender keeps]: the loan is over
          move ! (4 ∷ 0 ∷ 7 ∷ []) $ use3 𝓛 (later (‵ ((MutRef (named 0) κ R).own_val self' (mut_vals r)) ⊛ ‵ (flft κ q))) (back_again 𝓛 R κ q r α δ' mm) $ await ! tt $ split ! $
          move ! (3 ∷ 5 ∷ 6 ∷ []) $ drop ! $ drop ! $ drop ! $ move ! (3 ∷ 1 ∷ []) $
          -- [the index; the token of κ; self; that of κT]
          peeks ! Index (Is Index) (shows 𝓛 Index) g (u ∷ []) (λ is_g. let u_good = good_value 𝓛 Index W.index_laws g u is_g in
          lands_as ! refl refl u_good $ sets ! (addr ! (through ! refl (stop !))) refl (tt, tt) $
          -- self is given up
          let z2 : Freezes.Ghost = ((κs, (q, (qT, tt)), bounds, (self', tt), (mut_vals self', tt)), tt) in
          nothing ! $ move ! (3 ∷ 0 ∷ []) $ fjoin ! $ nothing ! $ move ! (4 ∷ 0 ∷ []) $ join ! $ move ! (3 ∷ 0 ∷ []) $ join ! $ join ! $
          nothing ! $ tells ! Lives lT $ join ! $ move ! (1 ∷ 0 ∷ []) $ join ! $ use1 𝓛 (raw (Freezes.pre z2)) (id⊢ 𝓤 _) $
          calls_at ! fm Freezes freezes z2 (and_then ! (get ! refl) (no_more !)) (λ t.
          use1 𝓛 (later (some (λ (x : Bor R.Denot). (tokens ⊛ ‵ (Frozen.own_val x (t ∷ []))) ⊛ raw (ensured 𝓛 Freezing freezing z2.0.0 z2.0.3 tt x)))) (id⊢ 𝓤 _) $ await ! tt $ pick ! (λ x. split ! $ move ! (1 ∷ []) $
          use1 𝓛 (‵ (follows_so R R γ none (λ _ _. ⊤) (λ n. n ≡ mm)) ⊛ raw (fact 𝓤 (x.now ≡ mm))) (ex_e 𝓤 _ (λ ws. snd∗ 𝓤 (sem 𝓛 (lasts Freezing z2.0.0 z2.0.3 ws)) _)) $ split ! $
          move ! (1 ∷ []) $ heard ! (x.now ≡ mm) (λ seen. move ! (1 ∷ []) $ split ! $ move ! (1 ∷ []) $
          peeks ! Frozen (Is Frozen) (shows 𝓛 Frozen) x (t ∷ []) (λ is_x. let at_t : t ≡ vptr x.ref_ptr.0 x.ref_ptr.1 = ap only (shr_Tells (named 0) κ R x (t ∷ []) is_x) in
          rewrite ! 0 (λ (w : Val). ‵ (Frozen.own_val x (w ∷ []))) at_t refl $ lands_as ! at_t refl (tt, tt) $ sets ! (of_opd ! (get ! refl)) refl u_good $
          -- [the reference; the tokens; what self ends as; the index]
          let z3 : Shows.Ghost = ((κs, (q, (qT, tt)), bounds, (x, (g, tt)), (shr_vals x, (u ∷ [], tt))), tt) in
          nothing ! $ move ! (4 ∷ 0 ∷ []) $ fjoin ! $ move ! (1 ∷ 0 ∷ []) $ fjoin ! $ move ! (1 ∷ 0 ∷ []) $ join ! $
          tells ! (W.Within x.now g) (subst (λ n. W.Within n g) (sym seen) (W.within m value g mm answers)) $ tells ! Lives lT $ join ! $ move ! (1 ∷ 0 ∷ []) $ join ! $ use1 𝓛 (raw (Shows.pre z3)) (id⊢ 𝓤 _) $
          calls_at ! fm Shows shows_it z3 (and_then ! (get ! refl) (and_then ! (get ! refl) (no_more !))) (λ v.
          use1 𝓛 (later (some (λ (y : (Out κs).Denot). (tokens ⊛ ‵ ((Out κs).own_val y (v ∷ []))) ⊛ raw (ensured 𝓛 Showing showing z3.0.0 z3.0.3 tt y)))) (id⊢ 𝓤 _) $ await ! tt $ pick ! (λ y. split ! $ move ! (1 ∷ []) $
          use1 𝓛 (raw (fact 𝓤 (W.Shows κs x.now g y))) (ex_e 𝓤 _ (λ ws. snd∗ 𝓤 (sem 𝓛 (lasts Showing z3.0.0 z3.0.3 ws)) _)) $
          heard ! (W.Shows κs x.now g y) (λ told'. let told : W.Shows κs mm g y = subst (λ n. W.Shows κs n g y) seen told' in split ! $ move ! (1 ∷ []) $
          peeks ! (Out κs) (Is (Out κs)) (shows 𝓛 (Out κs)) y (v ∷ []) (λ is_y.
          lands_as ! refl refl (W.lands κs v (good_value 𝓛 (Out κs) (W.out_laws κs) y v is_y)) $ returns ! (look_at ! 0 refl) $ free_all ! refl $
          -- [the result; the tokens; what self ends as]
          move ! (2 ∷ []) $ use1 𝓛 (‵ (follows_so R R γ none (λ _ _. ⊤) (W.Ends κs m value y))) (ends_weaker 𝓛 R γ (λ n. n ≡ mm) (W.Ends κs m value y) (λ n is. subst (W.Ends κs m value y) (sym is) (W.ends κs m value g mm y answers told))) $
          tells ! (W.Tells κs m value y) (W.tells κs m value g mm y answers told) $ spent ! 2 $ move ! (4 ∷ 0 ∷ 3 ∷ 2 ∷ 1 ∷ []) $ by ! (leaves 𝓛 ended hs spec bound v y (tt, (tt, tt)) (tt, (tt, tt))))))))))))))))))))))
