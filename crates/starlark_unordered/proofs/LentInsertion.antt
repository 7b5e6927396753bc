-- A call of a raw vacant entry that inserts a pair and lends it, at any types. It consists of two calls: one takes the
-- entry and returns the map with the slot, the other lends the pair there. A key is passed as a `Key`, in which `key_of`
-- finds it. `nameless` is the type of what a refusal returns, as a call passes it, without its names. Assumes `Logic`.
use Rattle.starlark_columns.proofs.LogicNames.{◌≡◌, refl, sym, ap, subst, ℕ, List, [], ◌∷◌, Ura, Fn, Dict, Ty, named, Val, SProp, ent, id⊢, ex_e, snd∗, sep, Lft, GName, Share, ftrue, flft, WpFn, Logic, sem, ◌⊑◌, ⊑_trans, fact, tables, ‵, raw, ◌⊛◌, some, later, ◌$◌, ◌∵◌, !, qed, by, move, drop, use1, use2, split, split3, join, pick, fjoin, await, rewrite, group, of_opd, and_then, no_more, returns, enter, alloc_all, pass_all, free_all, look_at, get, sets, lands_as, Last, left, blank, T, no, rest, yes, RattleType, follows_so, arg, layout, Laws, param, param_laws, Bor, MutBor, MutRef, ShrRef, usize, plain, nothing, heard, peeks, Tuple, tuple_laws, calls_at, Clauses, Ended, Lasts, closing, ensured, lasts, Meets, triple_of, Contract, Triple, framed, walk_of, Goes-blank, proved_at, leaves, Result, IfErr, IfOk, OnOk, OnErr, true, is_some, name_if_ok, shows, result_laws, tells, spent, drops}
use Rattle.starlark_hash.proofs.Common.{IfOk-weaker, Some, ◌∙◌, true≢false, Ok, Err}
use contract.Running.{Running, MachineTables}
use denote.Signature.{Slot}
use denote.Triple.Entry.{on_entry}
use mir.Syntax.{Callee, Lifetime, erased, local, value_local, place, assign, rv_opd, copy, seq, call, return}
use prog.Model.{Model}
use prog.Wp.{Closed}
use Rattle.starlark_unordered.specs.Lend.{HashMembers, lends_placed, lends_added, IsAdded, LendsSlot, PutsPair}
use Rattle.starlark_unordered.specs.contracts.raw_entry.RawVacantEntryMut as Vacant
use Rattle.starlark_unordered.proofs.raw_entry.RawVacantEntryMut.TheLaws as vacant_laws
use Rattle.starlark_unordered.specs.contracts.raw_entry.lend_placed as e
use Rattle.starlark_unordered.proofs.ReferenceAndResult as L
use Rattle.starlark_unordered.proofs.ReferenceAndResult.{NoRoom, lone_value, Table, item_in, with_value, both_in, Placed, placed_laws, mut_laws, shr_laws, good_value, so_weakens}
use Rattle.std.proofs.lemmas.Option.{some_pair_parts}

module _ {K V B : Type 0} (s held : MutBor (Table (K × V))) (key : K) (value : V) (back : B) where
  -- what is lent of the slot is lent of the inserted pair, whatever value is left in it
  lends_pair : (placed : Result ℕ (NoRoom B)) (lent : Result (Bor K × MutBor V) (NoRoom B)) → PutsPair s held key value back placed → LendsSlot held.now placed lent
      → IfOk lent (λ p. (p.0.now ≡ key) × (p.1.now ≡ value)) × OnErr lent (s.now.room ≡ 0) × IfErr lent (λ refused. refused.0 ≡ back)
      × ((w : V) (last : Table (K × V)) → IfOk placed (λ i. last ≡ with_value held.now i w) → OnOk lent (IsAdded s.now key w last)) × ((last : Table (K × V)) → OnErr lent (last ≡ held.now) → OnErr lent (last ≡ s.now))
  lends_pair (Ok i) (Ok z) put lends = (some_pair_parts z.0.now key z.1.now value (sym lends.shown ∙ put.placed), tt, tt, (λ w last is. rw is (put.written w)), λ last is. tt)
  lends_pair (Ok i) (Err e) put lends = absurd (true≢false (sym lends.refusal))
  lends_pair (Err e) lent put lends = rw lends.refusal (tt, put.full, put.handed_back, (λ w last is. tt), λ last is. is ∙ put.unchanged)

-- the type of what a refusal returns
abbrev pub Handed : RattleType → RattleType → RattleType
Handed V Key = L.N.the_row (Tuple (Key ∷ param 1 V ∷ []))

pub handed_laws : (V Key : RattleType) → Laws V → Laws Key → Laws (Handed V Key)
handed_laws V Key LV LKey = L.room_laws.the_row_laws (Tuple (Key ∷ param 1 V ∷ [])) (tuple_laws (Key ∷ param 1 V ∷ []) (LKey, (param_laws 1 V LV, tt)))

module _ (K V Key : RattleType) (nameless : Ty) (key_of : Key.Denot → K.Denot) (E : L.Eq.Ghosts K.Denot) (dE : Dict) (P : L.PartialEq.Ghosts K.Denot) (dP : Dict) (G : L.Hash.Ghosts K.Denot) (dG : Dict) where
  abbrev R : RattleType
  R = L.U.the_row (param 0 K) (param 1 V) P G

  abbrev Entry : Lifetime → Lft → RattleType
  Entry name κ = Vacant.the_row (record { mir = name; lft = κ }) (param 0 K) (param 1 V) P G

  abbrev Pair : Lft → List RattleType
  Pair κ = ShrRef (named 0) κ (param 0 K) ∷ MutRef (named 0) κ (param 1 V) ∷ []

  abbrev Out : Lft → RattleType
  Out κ = L.RS.the_row (Tuple (Pair κ)) (Handed V Key)

  -- the function's body: both calls copy what they are passed, and the second one's result is returned
  abbrev pub here : Callee → Callee → Fn
  here placing lending =
      let entry = λ (name : Lifetime). local (layout (Entry name [])) value_local in let key = local (layout Key) value_local in let value = local (layout V) value_local in
      record {
        lifetimes = 1;
        outlives = (1, 0) ∷ (2, 0) ∷ [];
        ty_params = [];
        givens = 0;
        params = 3;
        locals = local (layout (Out [])) value_local ∷ entry (named 0) ∷ key ∷ value ∷ local (layout (Tuple (MutRef erased [] R ∷ L.RS.the_row usize (Handed V Key) ∷ []))) value_local ∷ entry erased ∷ key ∷ value ∷ [];
        body = seq (assign (place 5 []) (rv_opd (copy (place 1 [])))) (seq (assign (place 6 []) (rv_opd (copy (place 2 [])))) (seq (assign (place 7 []) (rv_opd (copy (place 3 []))))
            (seq (call placing (copy (place 5 []) ∷ copy (place 6 []) ∷ copy (place 7 []) ∷ []) (place 4 [])) (seq (call lending (copy (place 4 []) ∷ []) (place 0 [])) return))));
      }

  -- the lifetimes of the parameters of the first call and of the whole
  abbrev taking : Slot 3 → Ended
  taking result = record {
    signature = record {
      lifetimes = 3;
      outlives = record { long = 1; long_ok = tt; short = named 0; short_ok = tt } ∷ record { long = 2; long_ok = tt; short = named 0; short_ok = tt } ∷ [];
      params = plain (λ κs. Entry (named 0) κs.0) ∷ plain (λ _. Key) ∷ plain (λ _. param 1 V) ∷ [];
      result = result;
    };
    kept = (no, (no, (no, tt)));
  }

  abbrev placing : Ended
  placing = taking (plain (λ κs. Placed κs.0 R (Handed V Key)))

  abbrev ended : Ended
  ended = taking (plain (λ κs. Out κs.0))

  -- Asked is the precondition on the map and the key
  module _ {M : Type 1} {𝓤 : Ura M} (𝓛 : Logic 𝓤) (𝓜 : Model 𝓤 𝓛.H) (𝓡 : Running 𝓤 𝓛.H 𝓜) (Asked : Table (K.Denot × V.Denot) → Key.Denot → SProp 𝓤) where
    abbrev 𝓣 : MachineTables 𝓤 𝓛.H 𝓜
    𝓣 = tables 𝓤 𝓛.H 𝓜 𝓡 𝓡.env

    abbrev pub Places : Contract 𝓤
    Places = triple_of 𝓛 placing.signature (closing 𝓛 placing (λ κs a. record {
      ghost = Unit {0};
      requires = λ _. sep 𝓤 (fact 𝓤 (κs.1.0 ⊑ K.lives)) (sep 𝓤 (fact 𝓤 (κs.1.1.0 ⊑ V.lives)) (Asked a.0.map.now a.1.0));
      ensures = λ _ g end. fact 𝓤 (PutsPair a.0.map g.0 (key_of a.1.0) a.1.1.0 (a.1.0, a.1.1.0) g.1);
    }))

    abbrev pub spec : Clauses 𝓤 ended
    spec κs a = record {
      ghost = Unit {0};
      requires = λ _. sep 𝓤 (fact 𝓤 (κs.1.0 ⊑ K.lives)) (sep 𝓤 (fact 𝓤 (κs.1.1.0 ⊑ V.lives)) (Asked a.0.map.now a.1.0));
      ensures = λ _ x end. sep 𝓤 (sem 𝓛 (lends_added (param 0 K) (param 1 V) (record { eq = P.eq; hash_input = G.hash_input }) a.0.map (key_of a.1.0) x)) (sep 𝓤 (fact 𝓤 (IfOk x (λ p. (p.0.now ≡ key_of a.1.0) × (p.1.now ≡ a.1.1.0)))) (sep 𝓤 (fact 𝓤 (OnErr x (a.0.map.now.room ≡ 0))) (fact 𝓤 (IfErr x (λ refused. refused.0 ≡ (a.1.0, a.1.1.0))))));
    }

    abbrev pub Lends : Contract 𝓤
    Lends = let Passed = arg nameless yes (Handed V Key) in triple_of 𝓛 (e.signature K V Passed E dE P dP G dG) (e.spec K V Passed E dE P dP G dG 𝓛 𝓜.mem 𝓡.returns)

    module _ (LK : Laws K) (LV : Laws V) (LKey : Laws Key) (within : (κ : Lft) → κ ⊑ K.lives → κ ⊑ Key.lives) (key_blank : (x : Key.Denot) (f : Last (Key.exit no) x) → T (blank (left (Key.exit no) x f)))
        (#place #lend : Callee) (places : Triple 𝓤 (𝓣.C #place) Places) (lends : Triple 𝓤 (𝓣.C #lend) Lends) where
      pub inserts : (k : Callee) → Closed 𝓤 𝓛.H 𝓣.C 𝓣.Λ k (here #place #lend) → Meets 𝓛 ended.signature (𝓣.C k) (closing 𝓛 ended spec)
      inserts k closed =
          let hs = drops ended in let W = walk_of 𝓛 ended hs spec in let K' : RattleType = param 0 K in let V' : RattleType = param 1 V in
          let Back : RattleType = Handed V Key in let Passed : RattleType = arg nameless yes Back in let fn = here #place #lend in
          let LK' = param_laws 0 K LK in let LV' = param_laws 1 V LV in let back_laws = handed_laws V Key LV LKey in
          let Map : Type 0 = Table (K.Denot × V.Denot) in let Slotted : Type 0 = MutBor Map × Result ℕ (NoRoom (Key.Denot × V.Denot)) in
          let goes = λ (F : RattleType). Goes-blank 𝓛 3 (plain (λ _. F)) no in
          proved_at 𝓛 ended hs spec 𝓜 𝓡 (Goes-blank 𝓛 3 (plain (λ κs. Entry (named 0) κs.0)) no (λ κs x f. tt), (goes Key (λ κs. key_blank), (goes V' (λ κs x f. tt), tt))) k fn closed (λ y are.
          let κs = y.0.0 in let qs = y.0.1 in let κ : Lft = κs.0 in let q : Share = qs.0 in let κK : Lft = κs.1.0 in let qK : Share = qs.1.0 in
          let κV : Lft = κs.1.1.0 in let qV : Share = qs.1.1.0 in let ql = L.Share.left q in let qr = L.Share.right q in
          let s = y.0.3.0 in let key : Key.Denot = y.0.3.1.0 in let value : V.Denot = y.0.3.1.1.0 in let m : Map = s.map.now in let γ : GName = s.map.ghost_name in let by_key = key_of key in
          let v₀ = lone_value 𝓛 (Entry (named 0) κ) (vacant_laws.the_row_laws (record { mir = named 0; lft = κ }) K' V' P G LK' LV') s y.0.4.0 are.0 in
          let v₁ = lone_value 𝓛 Key LKey key y.0.4.1.0 are.1.0 in let v₂ = lone_value 𝓛 V' LV' value y.0.4.1.1.0 are.1.1.0 in
          let at : List Val × (List Val × (List Val × Unit {0})) → W.Ghost = λ us. ((κs, qs, y.0.2, y.0.3, us), y.1) in let z = at (v₀.0 ∷ [], (v₁.0 ∷ [], (v₂.0 ∷ [], tt))) in
          subst (λ us. ent 𝓤 (W.pre (at us)) (WpFn 𝓤 𝓛.H 𝓣.C 𝓣.Λ fn (W.args (at us)) (W.post (at us)))) (sym (λ j. (v₀.1 j, (v₁.1 j, (v₂.1 j, tt))))) (
          qed 𝓛 (raw (on_entry 𝓛 ended.signature κs qs y.0.3 z.0.4) ∷ raw (fact 𝓤 (κK ⊑ K.lives)) ∷ raw (fact 𝓤 (κV ⊑ V.lives)) ∷ raw (Asked m key) ∷ []) ∵ move ! (1 ∷ 2 ∷ []) $ heard ! _ (λ lK. heard ! _ (λ lV.
          -- [the tokens with what the parameters own; what is asked]
          enter ! _ _ _ _ _ $ alloc_all ! (λ l. pass_all ! refl (v₀.2, (v₁.2, (v₂.2, tt))) $
          sets ! (of_opd ! (get ! refl)) refl v₀.2 $ sets ! (of_opd ! (get ! refl)) refl v₁.2 $ sets ! (of_opd ! (get ! refl)) refl v₂.2 $
          move ! (1 ∷ []) $ tells ! (κV ⊑ V.lives) lV $ tells ! (κK ⊑ K.lives) lK $ group ! 3 $ move ! (1 ∷ 0 ∷ []) $ join ! $ use1 𝓛 (raw (Places.pre z)) (id⊢ 𝓤 _) $
          calls_at ! (framed 𝓤 𝓛.H 𝓜 𝓣) Places places z (and_then ! (get ! refl) (and_then ! (get ! refl) (and_then ! (get ! refl) (no_more !)))) (λ u.
          use1 𝓛 (later (some (λ (g : Slotted). ((‵ (flft κ q) ⊛ ‵ (flft κK qK) ⊛ ‵ (flft κV qV) ⊛ ‵ ftrue) ⊛ ‵ ((Placed κ R Back).own_val g (u ∷ [])))
          ⊛ some (λ (ws : Lasts placing z.0.0 z.0.3). ‵ (lasts placing z.0.0 z.0.3 ws) ⊛ raw (fact 𝓤 (PutsPair s.map g.0 by_key value (key, value) g.1)))))) (id⊢ 𝓤 _) $ await ! tt $
          pick ! (λ g. split ! $ move ! (1 ∷ []) $ pick ! (λ ws. split ! $ drop ! $ heard ! (PutsPair s.map g.0 by_key value (key, value) g.1) (λ put. split ! $ move ! (1 ∷ []) $
          -- [the map and the slot; the tokens]
          peeks ! (Placed κ R Back) _ (shows 𝓛 (Placed κ R Back)) g (u ∷ []) (λ is_u.
          lands_as ! refl refl (good_value 𝓛 (Placed κ R Back) (placed_laws κ R Back (L.the_map_laws.the_row_laws K' V' P G LK' LV') back_laws) g u is_u) $
          move ! (1 ∷ []) $ split3 ! $ use1 𝓛 (‵ (flft κ ql) ⊛ ‵ (flft κ qr)) (𝓛.lfts.lft_split κ q) $ split ! $ move ! (3 ∷ []) $ split ! $ move ! (2 ∷ 4 ∷ 0 ∷ 3 ∷ 1 ∷ []) $ group ! 5 $
          -- [the tokens; the map and the slot]
          let in_back : κ ⊑ Back.lives = L.room_laws.the_within (Tuple (Key ∷ V' ∷ [])) κ (both_in κ Key V' (within κ (⊑_trans κ κK K.lives y.0.2.0 lK)) (⊑_trans κ κV V.lives y.0.2.1.0 lV)) in
          let There = IfOk g.1 (λ i. is_some (item_in g.0.now i) ≡ true) in let x₀ : Lends.Ghost = (((κ, (κK, (κV, (κ, tt)))), (ql, (qK, (qV, (qr, tt)))), y.0.2, (g, tt), (u ∷ [], tt)), tt) in
          nothing ! $ move ! (2 ∷ 0 ∷ []) $ fjoin ! $ move ! (1 ∷ 0 ∷ []) $ join ! $
          tells ! There (IfOk-weaker g.1 (λ i. item_in g.0.now i ≡ Some (by_key, value)) (λ i. is_some (item_in g.0.now i) ≡ true) (λ i. ap is_some) put.placed) $
          tells ! (κ ⊑ Back.lives) in_back $ tells ! (κV ⊑ V.lives) lV $ tells ! (κK ⊑ K.lives) lK $ group ! 4 $ move ! (1 ∷ 0 ∷ []) $ join ! $ use1 𝓛 (raw (Lends.pre x₀)) (id⊢ 𝓤 _) $
          calls_at ! (framed 𝓤 𝓛.H 𝓜 𝓣) Lends lends x₀ (and_then ! (get ! refl) (no_more !)) (λ t.
          use1 𝓛 (later (some (λ (x : (Out κ).Denot). ((‵ (flft κ ql) ⊛ ‵ (flft κK qK) ⊛ ‵ (flft κV qV) ⊛ ‵ (flft κ qr) ⊛ ‵ ftrue) ⊛ ‵ ((Out κ).own_val x (t ∷ [])))
          ⊛ raw (ensured 𝓛 (e.ended K V Passed E dE P dP G dG) (e.clauses K V Passed E dE P dP G dG 𝓛 𝓜.mem 𝓡.returns) x₀.0.0 x₀.0.3 tt x)))) (id⊢ 𝓤 _) $ await ! tt $ pick ! (λ x. split ! $ move ! (1 ∷ []) $
          let Lent = LendsSlot g.0.now g.1 x in let members : HashMembers K.Denot = record { eq = P.eq; hash_input = G.hash_input } in let name = name_if_ok (λ z. z.1.ghost_name) x in
          use1 𝓛 (‵ (lends_placed K' V' members g.0 g.1 x) ⊛ raw (fact 𝓤 Lent)) (ex_e 𝓤 _ (λ ws. snd∗ 𝓤 (sem 𝓛 (lasts (e.ended K V Passed E dE P dP G dG) x₀.0.0 x₀.0.3 ws)) _)) $ split ! $
          move ! (1 ∷ []) $ heard ! Lent (λ lent. move ! (1 ∷ []) $ split ! $ move ! (1 ∷ []) $ let as_pair = lends_pair s.map g.0 by_key value (key, value) g.1 x put lent in
          -- [the result; the tokens; what the map follows]
          peeks ! (Out κ) _ (shows 𝓛 (Out κ)) x (t ∷ []) (λ is_t.
          lands_as ! refl refl (good_value 𝓛 (Out κ) (result_laws (Tuple (Pair κ)) Back (tuple_laws (Pair κ) (shr_laws κ K' LK', (mut_laws κ V' LV', tt))) back_laws) x t is_t) $
          returns ! (look_at ! 0 refl) $ free_all ! refl $
          move ! (1 ∷ []) $ split3 ! $ move ! (2 ∷ []) $ split3 ! $ move ! (3 ∷ 1 ∷ []) $ use2 𝓛 (‵ (flft κ q)) (𝓛.lfts.lft_join κ q) $ move ! (0 ∷ 3 ∷ 1 ∷ 2 ∷ []) $ group ! 4 $ move ! (2 ∷ []) $
          -- [what the map follows; the tokens; the result]
          rewrite ! 0 (λ (δ : GName). ‵ (follows_so R V' δ name (λ w n. IfOk g.1 (λ i. n ≡ with_value g.0.now i w)) (λ n. OnErr x (n ≡ g.0.now)))) put.same_map refl $
          use1 𝓛 (‵ (lends_added K' V' members s.map by_key x))
          (so_weakens 𝓛 R V' γ name (λ w n. IfOk g.1 (λ i. n ≡ with_value g.0.now i w)) (λ w n. OnOk x (IsAdded m by_key w n)) (λ n. OnErr x (n ≡ g.0.now)) (λ n. OnErr x (n ≡ m)) as_pair.3 as_pair.4) $
          tells ! (IfErr x (λ refused. refused.0 ≡ (key, value))) as_pair.2 $ tells ! (OnErr x (m.room ≡ 0)) as_pair.1 $ tells ! (IfOk x (λ p. (p.0.now ≡ by_key) × (p.1.now ≡ value))) as_pair.0 $ group ! 3 $ move ! (1 ∷ 0 ∷ []) $ join ! $ spent ! 3 $ move ! (2 ∷ 0 ∷ 3 ∷ 1 ∷ []) $
          by ! (leaves 𝓛 ended hs spec z t x (rest ((Entry (named 0) κ).exit no) s, (rest (Key.exit no) key, (rest (V'.exit no) value, tt))) (tt, (tt, (tt, tt))))))))))))))))))
