-- A call that puts a new entry at the end of a map and lends it meets its contract, whatever its key is brought as, where its code
-- does: what it is passed is taken apart before, and what it leaves is put together after. It hands on what the proofs over it cite:
-- `L.RS` there is `RS` here. Assumes `Logic`.
use Rattle.starlark_columns.proofs.LogicNames.{◌≡◌, sym, subst, List, [], ◌∷◌, Ura, Fn, named, Val, vptr, SProp, ent, sep, Lft, Lfts, AllOutlive, ftrue, flft, WpFn, Logic, sem, ◌⊑◌, fact, tables, ‵, raw, ◌⊛◌, ◌$◌, ◌∵◌, !, qed, by, move, keep, split, split3, join, fsplit, fsplit3, Last, left, blank, T, no, rest, RattleType, owns, layout, Laws, param, param_laws, MutBor, MutRef, ShrRef, mut_vals, mut_Tells, plain, types_at, mut_ref_to, heard, tells, spent, drops, leaves, Tuple, Clauses, Ended, closing, Meets, walk_of, Goes-spent_ref, Goes-blank, Good, proved_at, None, IfOk, IfErr, OnErr}
use contract.Lifetimes.{Shares}
use contract.Running.{Running}
use mir.Syntax.{Callee}
use prog.Model.{Model}
use prog.Wp.{Closed}
pub use Rattle.core.specs.contracts.result.Result as RS
use Rattle.std.specs.declared.cmp.PartialEq as PartialEq
pub use Rattle.starlark_columns.proofs.LoneValue.{lone_value}
pub use Rattle.starlark_hash.specs.Lookup.{found}
pub use Rattle.starlark_hash.specs.HashValue.{hash_of, key_of}
pub use Rattle.starlark_hash.specs.contracts.hashed.Hashed as H
pub use Rattle.starlark_hash.proofs.hashed.Hashed.TheLaws as hashed_laws
pub use Rattle.starlark_hash.specs.declared.hashed.Hashed.{Hashed}
pub use Rattle.starlark_hash.specs.contracts.no_room.NoRoom as N
pub use Rattle.starlark_hash.proofs.no_room.NoRoom.TheLaws as room_laws
pub use Rattle.starlark_hash.specs.declared.no_room.NoRoom.{NoRoom}
pub use Rattle.starlark_small.specs.Lend.{lends_inserted}
pub use Rattle.starlark_small.specs.contracts.small_map.SmallMap as S

-- a key is brought as a `Key`, and under puts it under its hash
module _ (K V Key : RattleType) (under : Key.Denot → Hashed K.Denot) (P : PartialEq.Ghosts K.Denot) where
  abbrev R : RattleType
  R = S.the_row (param 0 K) (param 1 V) P

  abbrev Out : Lft → RattleType
  Out κ = RS.the_row (Tuple (ShrRef (named 0) κ (param 0 K) ∷ MutRef (named 0) κ (param 1 V) ∷ [])) (N.the_row (Tuple (Key ∷ param 1 V ∷ [])))

  abbrev ended : Ended
  ended = record {
    signature = record {
      lifetimes = 3;
      outlives = record { long = 1; long_ok = tt; short = named 0; short_ok = tt } ∷ record { long = 2; long_ok = tt; short = named 0; short_ok = tt } ∷ [];
      params = mut_ref_to (0 ∷ []) tt (plain (λ _. R)) ∷ plain (λ _. Key) ∷ plain (λ _. param 1 V) ∷ [];
      result = plain (λ κs. Out κs.0);
    };
    kept = (no, (no, (no, tt)));
  }

  module _ {M : Type 1} {𝓤 : Ura M} (𝓛 : Logic 𝓤) where
    abbrev spec : Clauses 𝓤 ended
    spec κs a = record {
      ghost = Unit {0};
      requires = λ _. sep 𝓤 (fact 𝓤 (κs.1.0 ⊑ K.lives)) (sep 𝓤 (fact 𝓤 (κs.1.1.0 ⊑ V.lives)) (fact 𝓤 (found (P.eq (key_of (under a.1.0))) (hash_of (under a.1.0)) a.0.now.entries ≡ None)));
      ensures = λ _ x end. sep 𝓤 (sem 𝓛 (lends_inserted (param 0 K) (param 1 V) P a.0 (under a.1.0) x)) (sep 𝓤 (fact 𝓤 (IfOk x (λ p. (p.0.now ≡ key_of (under a.1.0)) × (p.1.now ≡ a.1.1.0))))
          (sep 𝓤 (fact 𝓤 (OnErr x (a.0.now.room ≡ 0))) (fact 𝓤 (IfErr x (λ refused. refused.0 ≡ (a.1.0, a.1.1.0))))));
    }

    module _ (κs : Lfts 3) (qs : Shares 3) (bounds : AllOutlive 3 ended.signature.outlives κs) (r : MutBor R.Denot) (key : Key.Denot) (value : V.Denot) (k v : Val) where
      abbrev bound : (walk_of 𝓛 ended (drops ended) spec).Ghost
      bound = ((κs, qs, bounds, (r, (key, (value, tt))), (mut_vals r, (k ∷ [], (v ∷ [], tt)))), tt)

      abbrev pub Post : Val → SProp 𝓤
      Post = (walk_of 𝓛 ended (drops ended) spec).post bound

      -- the tokens, self, the key and the value
      abbrev Brought : SProp 𝓤
      Brought = sep 𝓤 (sem 𝓛 (flft κs.0 qs.0)) (sep 𝓤 (sem 𝓛 (flft κs.1.0 qs.1.0)) (sep 𝓤 (sem 𝓛 (flft κs.1.1.0 qs.1.1.0))
          (sep 𝓤 (sem 𝓛 ((MutRef (named 0) κs.0 R).own_val r (mut_vals r))) (sep 𝓤 (sem 𝓛 (Key.own_val key (k ∷ []))) (sem 𝓛 ((param 1 V).own_val value (v ∷ [])))))))

      pub ends : (w : Val) (x : (Out κs.0).Denot) → IfOk x (λ p. (p.0.now ≡ key_of (under key)) × (p.1.now ≡ value)) → OnErr x (r.now.room ≡ 0) → IfErr x (λ refused. refused.0 ≡ (key, value))
          → ent 𝓤 (sep 𝓤 (sem 𝓛 ((Out κs.0).own_val x (w ∷ []))) (sep 𝓤 (sep 𝓤 (sem 𝓛 (flft κs.0 qs.0)) (sep 𝓤 (sem 𝓛 (flft κs.1.0 qs.1.0)) (sep 𝓤 (sem 𝓛 (flft κs.1.1.0 qs.1.1.0)) (sem 𝓛 ftrue))))
          (sem 𝓛 (lends_inserted (param 0 K) (param 1 V) P r (under key) x)))) (Post w)
      ends w x shown full back =
          qed 𝓛 (‵ ((Out κs.0).own_val x (w ∷ [])) ∷ (‵ (flft κs.0 qs.0) ⊛ ‵ (flft κs.1.0 qs.1.0) ⊛ ‵ (flft κs.1.1.0 qs.1.1.0) ⊛ ‵ ftrue) ∷ ‵ (lends_inserted (param 0 K) (param 1 V) P r (under key) x) ∷ []) ∵
          tells ! (IfErr x (λ refused. refused.0 ≡ (key, value))) back $ tells ! (OnErr x (r.now.room ≡ 0)) full $ join ! $ tells ! (IfOk x (λ p. (p.0.now ≡ key_of (under key)) × (p.1.now ≡ value))) shown $ join ! $
          move ! (3 ∷ 0 ∷ []) $ join ! $ spent ! 3 $ move ! (3 ∷ 0 ∷ 2 ∷ 1 ∷ []) $ by ! (leaves 𝓛 ended (drops ended) spec bound w x (tt, (rest (Key.exit no) key, (tt, tt))) (tt, (tt, (tt, tt))))

    pub meets : (𝓜 : Model 𝓤 𝓛.H) (𝓡 : Running 𝓤 𝓛.H 𝓜) → Laws Key → Laws V → ((x : Key.Denot) (f : Last (Key.exit no) x) → T (blank (left (Key.exit no) x f)))
        → (self : Callee) (f : Fn) → Closed 𝓤 𝓛.H (tables 𝓤 𝓛.H 𝓜 𝓡 𝓡.env).C (tables 𝓤 𝓛.H 𝓜 𝓡 𝓡.env).Λ self f
        → ((κs : Lfts 3) (qs : Shares 3) (bounds : AllOutlive 3 ended.signature.outlives κs) (r : MutBor R.Denot) (key : Key.Denot) (value : V.Denot) (k v : Val) → Good (layout Key) k → Good (layout (param 1 V)) v
        → κs.1.0 ⊑ K.lives → κs.1.1.0 ⊑ V.lives → found (P.eq (key_of (under key))) (hash_of (under key)) r.now.entries ≡ None → ent 𝓤 (Brought κs qs bounds r key value k v)
        (WpFn 𝓤 𝓛.H (tables 𝓤 𝓛.H 𝓜 𝓡 𝓡.env).C (tables 𝓤 𝓛.H 𝓜 𝓡 𝓡.env).Λ f (vptr r.ref_ptr.0 r.ref_ptr.1 ∷ k ∷ v ∷ []) (Post κs qs bounds r key value k v)))
        → Meets 𝓛 ended.signature ((tables 𝓤 𝓛.H 𝓜 𝓡 𝓡.env).C self) (closing 𝓛 ended spec)
    meets 𝓜 𝓡 LKey LV key_blank self f closed body =
        let 𝓣 = tables 𝓤 𝓛.H 𝓜 𝓡 𝓡.env in proved_at 𝓛 ended (drops ended) spec 𝓜 𝓡
        (Goes-spent_ref 𝓛 3 (0 ∷ []) tt (plain (λ _. R)), (Goes-blank 𝓛 3 (plain (λ _. Key)) no (λ κs. key_blank), (Goes-blank 𝓛 3 (plain (λ _. param 1 V)) no (λ κs x f. tt), tt))) self f closed (λ y are.
        let κs = y.0.0 in let qs = y.0.1 in let a = y.0.3 in let vss = y.0.4 in let W = walk_of 𝓛 ended (drops ended) spec in let self_is = mut_Tells (named 0) κs.0 R a.0 vss.0 are.0 in
        let k = lone_value 𝓛 Key LKey a.1.0 vss.1.0 are.1.0 in let v = lone_value 𝓛 (param 1 V) (param_laws 1 V LV) a.1.1.0 vss.1.1.0 are.1.1.0 in
        subst (λ (us : List Val × (List Val × (List Val × Unit {0}))). ent 𝓤 (W.pre ((κs, qs, y.0.2, a, us), y.1)) (WpFn 𝓤 𝓛.H 𝓣.C 𝓣.Λ f (W.args ((κs, qs, y.0.2, a, us), y.1)) (W.post ((κs, qs, y.0.2, a, us), y.1))))
        (sym (λ j. (self_is j, (k.1 j, (v.1 j, tt)))))
        (qed 𝓛 (((‵ (flft κs.0 qs.0) ⊛ ‵ (flft κs.1.0 qs.1.0) ⊛ ‵ (flft κs.1.1.0 qs.1.1.0) ⊛ ‵ ftrue) ⊛ ‵ (owns (types_at ended.signature.params κs) a (mut_vals a.0, (k.0 ∷ [], (v.0 ∷ [], tt)))))
        ∷ raw (fact 𝓤 (κs.1.0 ⊑ K.lives)) ∷ raw (fact 𝓤 (κs.1.1.0 ⊑ V.lives)) ∷ raw (fact 𝓤 (found (P.eq (key_of (under a.1.0))) (hash_of (under a.1.0)) a.0.now.entries ≡ None)) ∷ []) ∵
        move ! (1 ∷ 2 ∷ 3 ∷ []) $ heard ! _ (λ lK. heard ! _ (λ lV. heard ! _ (λ absent.
        split ! $ split3 ! $ move ! (2 ∷ []) $ split ! $ move ! (4 ∷ []) $ fsplit3 ! $ move ! (2 ∷ []) $ fsplit ! $ keep ! (6 ∷ 7 ∷ 4 ∷ 2 ∷ 3 ∷ 0 ∷ []) $
        by ! (body κs qs y.0.2 a.0 a.1.0 a.1.1.0 k.0 v.0 k.2 v.2 lK lV absent))))))
