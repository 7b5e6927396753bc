-- `insert_hashed_unique_unchecked` meets its contract, at any key and value types: the map is lent to the call that puts the entry at the end and comes back, and is then lent for good to the call that shows it. Assumes `Logic`.
use Rattle.starlark_columns.proofs.LogicNames.{◌≡◌, refl, sym, inl, inr, ℕ, ◌<◌, ◌^◌, suc-ne-zero, [], ◌∷◌, length, lit<, Args, a_type, dcons, dnil, named, w64, inst_fn, Val, vint, vcons, vnil, of_list, id⊢, ex_e, snd∗, Lft, GName, Share, ftrue, flft, fres, Env, sem, live, vrt, in_variant, by_variants, ◌⊑◌, ⊑_trans, meet_⊑_right, fact, tables, ‵, raw, ◌⊛◌, some, given, later, at_ret, ◌$◌, ◌∵◌, !, qed, by, move, drop, use1, use2, use3, split, split3, join, pick, learn, fsplit, fjoin, await, rewrite, group, whole, agg, stop, fld, addr, lit, of_opd, and_then, no_more, first, exec, returns, enter, alloc_all, pass_all, free_all, look_at, get, get_in, get_tag, through, sets, sets_last, lands_as, env, RattleType, usize, follows, param, bounded, layout, param_laws, uint_Makes, uint_Tells, Bor, MutBor, MutRef, ShrRef, mut_vals, nothing, owned, heard, tells, Tuple, tuple_laws, calls_at, Lasts, ensured, lasts, triple_of, Contract, Triple, framed, Good, Ok-of, Err-of, and_tt, Result, Ok, Err, None, IfErr, IfOk, OnErr, OnOk, slice_get, Some, option_map, after}
use Rattle.starlark_hash.specs.Entries.{pair_of}
use Rattle.starlark_hash.specs.HashValue.{hash_of, key_of}
use Rattle.std.specs.Hash.{HashWrites}
use Rattle.starlark_hash.specs.Hasher.{own_hash}
use Rattle.starlark_hash.specs.Lookup.{found, Writes}
use Rattle.starlark_small.specs.Lookup.{AreOwn}
use Rattle.starlark_small.specs.Insert.{IsInserted, IsRefused}
use Rattle.starlark_small.specs.Map.{Map}
use Rattle.starlark_small.specs.contracts.small_map.SmallMap.push as p
use Rattle.starlark_small.specs.contracts.small_map.SmallMap.entry_mut as e
use Rattle.starlark_small.specs.contracts.small_map.SmallMap.insert_hashed_unique_unchecked as contract
use Rattle.starlark_columns.proofs.ProofSteps.{Kept, within, lent_within, back_again}
use Rattle.starlark_table.proofs.LentInResult.{given_up, so_rests, so_follows, in_ok_told, in_err, entry_val, entry_told, which}
use Rattle.starlark_small.proofs.Inserted.{with_value_at, within_inserted, inserted_written, inserted_shown}
use Rattle.starlark_small.proofs.PutLent as L
use Rattle.starlark_small.proofs.PutLent.{Hashed, NoRoom, Post, ends, lends_inserted, lone_value, meets}
use Rattle.starlark_small.proofs.small_map.SmallMap.push as push
use Rattle.starlark_small.proofs.small_map.SmallMap.entry_mut as entry
use Rattle.starlark_small.proofs.small_map.SmallMap.insert_hashed_unique_unchecked as routine

pub insert_hashed_unique_unchecked_spec : {M : Type 1} → routine.Statement.statement M
insert_hashed_unique_unchecked_spec 𝓤 𝓛 𝓜 𝓡 wired K V LK LV E dE P dP is_eq is_partial =
    let 𝓣 = tables 𝓤 𝓛.H 𝓜 𝓡 𝓡.env in let fm = framed 𝓤 𝓛.H 𝓜 𝓣 in let args : Args = bounded (a_type ∷ a_type ∷ []) (K, (V, tt)) (dcons dE (dcons dP dnil)) in let fn = inst_fn args routine.Code.function in
    let K' : RattleType = param 0 K in let V' : RattleType = param 1 V in let Key : RattleType = L.H.the_row K' in let R : RattleType = L.S.the_row K' V' P in let Back : RattleType = L.N.the_row (Tuple (Key ∷ V' ∷ [])) in
    let Pair = λ (κ : Lft). Tuple (ShrRef (named 0) κ K' ∷ MutRef (named 0) κ V' ∷ []) in let key_laws = L.hashed_laws.the_row_laws K' (param_laws 0 K LK) in
    let back_laws = L.room_laws.the_row_laws (Tuple (Key ∷ V' ∷ [])) (tuple_laws (Key ∷ V' ∷ []) (key_laws, (param_laws 1 V LV, tt))) in
    let Got : Type 0 = Result ℕ (NoRoom (Hashed K.Denot × V.Denot)) in let Out : Type 0 = Result (Bor K.Denot × MutBor V.Denot) (NoRoom (Hashed K.Denot × V.Denot)) in
    let Puts : Contract 𝓤 = triple_of 𝓛 (p.signature K V E dE P dP) (p.spec K V E dE P dP 𝓛 𝓜.mem 𝓡.returns) in
    let Shows : Contract 𝓤 = triple_of 𝓛 (e.signature K V E dE P dP) (e.spec K V E dE P dP 𝓛 𝓜.mem 𝓡.returns) in
    let puts : Triple 𝓤 (𝓣.C (push.Symbol.name args)) Puts = push.Met.met 𝓤 𝓛 𝓜 𝓡 (routine.Code.calls-starlark_small::small_map::SmallMap::push 𝓡.env wired) K V LK LV E dE P dP is_eq is_partial in
    let shows : Triple 𝓤 (𝓣.C (entry.Symbol.name args)) Shows = entry.Met.met 𝓤 𝓛 𝓜 𝓡 (routine.Code.calls-starlark_small::small_map::SmallMap::entry_mut 𝓡.env wired) K V LK LV E dE P dP is_eq is_partial in
    meets K V Key (λ key. key) P 𝓛 𝓜 𝓡 key_laws LV (λ x f. tt) (contract.Key.name args) fn (routine.Code.unfolded 𝓤 𝓛.H 𝓜 𝓡 wired (K, (V, tt)) dE dP) (λ κs qs bounds r key value k v k_good v_good lK lV absent.
    let κ = κs.0 in let κK = κs.1.0 in let κV = κs.1.1.0 in let q = qs.0 in let qK = qs.1.0 in let qV = qs.1.1.0 in
    let b = r.ref_ptr.0 in let o = r.ref_ptr.1 in let m : Map K.Denot V.Denot = r.now in let γ = r.ghost_name in let qq : Share = within 𝓛 R κ q r in let brought : Hashed K.Denot × V.Denot = (key, value) in
    qed 𝓛 (‵ (flft κ q) ∷ ‵ (flft κK qK) ∷ ‵ (flft κV qV) ∷ ‵ ((MutRef (named 0) κ R).own_val r (mut_vals r)) ∷ ‵ (Key.own_val key (k ∷ [])) ∷ ‵ (V'.own_val value (v ∷ [])) ∷ []) ∵
    -- [the tokens of κ, κK, κV; self; the key; the value]
    enter ! _ _ _ _ _ $ alloc_all ! (λ l. let En : Env 𝓤 𝓛.H = env fn.locals l in let Ends = Post K V Key (λ key. key) P 𝓛 κs qs bounds r key value k v in
    pass_all ! refl ((tt, tt), (k_good, (v_good, tt))) $
    sets ! (addr ! (through ! refl (stop !))) refl (tt, tt) $ sets ! (of_opd ! (get ! refl)) refl k_good $ sets ! (of_opd ! (get ! refl)) refl v_good $
    -- self is lent again, for a lifetime within κ
    move ! (0 ∷ 3 ∷ []) $ use2 𝓛 (later (some (λ (α : ℕ). some (λ (δ : GName). ‵ (flft (α ∷ κ) qq) ⊛ ‵ ((MutRef (named 0) (α ∷ κ) R).own_val (record r { ghost_name = δ }) (mut_vals r)) ⊛ raw (Kept 𝓛 R κ q r α δ)))))
    (lent_within 𝓛 R κ q r) $ await ! tt $ pick ! (λ α. pick ! (λ δ. split3 ! $
    -- [the token of ακ; the loan; what the lender keeps; κK; κV; the key; the value]
    let ακ : Lft = α ∷ κ in let loan : MutBor (Map K.Denot V.Denot) = record r { ghost_name = δ } in
    let inner : (ακ ⊑ κK) × ((ακ ⊑ κV) × Unit {0}) = (⊑_trans ακ κ κK (meet_⊑_right (α ∷ []) κ) bounds.0, (⊑_trans ακ κ κV (meet_⊑_right (α ∷ []) κ) bounds.1.0, tt)) in
    let z : Puts.Ghost = (((ακ, (κK, (κV, tt))), (qq, (qK, (qV, tt))), inner, (loan, (key, (value, tt))), (mut_vals loan, (k ∷ [], (v ∷ [], tt)))), tt) in
    nothing ! $ move ! (7 ∷ 0 ∷ []) $ fjoin ! $ move ! (6 ∷ 0 ∷ []) $ fjoin ! $ move ! (2 ∷ 0 ∷ []) $ fjoin ! $
    nothing ! $ move ! (5 ∷ 0 ∷ []) $ join ! $ move ! (4 ∷ 0 ∷ []) $ join ! $ move ! (2 ∷ 0 ∷ []) $ join ! $ join ! $
    tells ! (found (P.eq (key_of key)) (hash_of key) m.entries ≡ None) absent $ tells ! (κV ⊑ V.lives) lV $ tells ! (κK ⊑ K.lives) lK $ group ! 3 $ move ! (1 ∷ 0 ∷ []) $ join ! $ use1 𝓛 (raw (Puts.pre z)) (id⊢ 𝓤 _) $
    calls_at ! fm Puts puts z (and_then ! (get ! refl) (and_then ! (get ! refl) (and_then ! (get ! refl) (no_more !)))) (λ u.
    use1 𝓛 (later (some (λ (g : Got). ((‵ (flft ακ qq) ⊛ ‵ (flft κK qK) ⊛ ‵ (flft κV qV) ⊛ ‵ ftrue) ⊛ ‵ ((L.RS.the_row usize Back).own_val g (u ∷ [])))
    ⊛ some (λ (ws : Lasts (p.ended K V E dE P dP) z.0.0 z.0.3). ‵ (lasts (p.ended K V E dE P dP) z.0.0 z.0.3 ws) ⊛ raw (fact 𝓤 (IfOk g (λ i. i ≡ length m.entries))) ⊛ raw (fact 𝓤 (OnOk g (IsInserted m ws.0 key value)))
    ⊛ raw (fact 𝓤 (OnOk g (Writes P.eq (P.eq (key_of key)) (hash_of key) m.entries ws.0.entries (Some value)))) ⊛ raw (fact 𝓤 ((feeds : K.Denot → HashWrites) → hash_of key ≡ own_hash feeds (key_of key) → AreOwn feeds m → AreOwn feeds ws.0))
    ⊛ raw (fact 𝓤 (OnErr g (IsRefused m ws.0))) ⊛ raw (fact 𝓤 (OnErr g (m.room ≡ 0))) ⊛ raw (fact 𝓤 (IfErr g (λ refused. refused.0 ≡ brought))))))) (id⊢ 𝓤 _) $ await ! tt $
    pick ! (λ g. split ! $ move ! (1 ∷ []) $ pick ! (λ ws. split ! $ fsplit ! $ fsplit ! $ move ! (3 ∷ []) $ split ! $ heard ! _ (λ at_end. split ! $ heard ! _ (λ inserted. split ! $ drop ! $ split ! $ drop ! $ split ! $ heard ! _ (λ refused. split ! $ heard ! _ (λ full. heard ! _ (λ back.
    let mm : Map K.Denot V.Denot = ws.0 in let self : MutBor (Map K.Denot V.Denot) = record r { now = mm } in
    move ! (3 ∷ []) $ split ! $ split3 ! $ move ! (2 ∷ []) $ split ! $
    -- the loan is over, and self is back
    move ! (5 ∷ 2 ∷ 8 ∷ []) $ use3 𝓛 (later (‵ ((MutRef (named 0) κ R).own_val self (mut_vals r)) ⊛ ‵ (flft κ q))) (back_again 𝓛 R κ q r α δ mm) $ await ! tt $ split ! $
    move ! (3 ∷ 6 ∷ 7 ∷ []) $ drop ! $ drop ! $ drop ! $ move ! (4 ∷ 1 ∷ []) $
    -- [what the call gave; the token of κ; self; those of κV, κK]
    elim (which g) [
      | inl w ↦
          let i = w.0 in
          let last : i ≡ length m.entries = rw w.1 at at_end in let new : IsInserted m mm key value = rw w.1 at inserted in let within : i < length mm.entries = within_inserted m mm key value i last new in
          rewrite ! 0 (λ (h : Got). ‵ ((L.RS.the_row usize Back).own_val h (u ∷ []))) w.1 refl $
          use1 𝓛 (given ((u ≡ live 0 (vcons (vint w64 i) vnil)) × Good (layout usize) (vint w64 i)) (‵ (usize.own_val i (vint w64 i ∷ [])))) (in_ok_told 𝓛 usize Back u i (vint w64 i) (λ vs is. (uint_Tells w64 i vs is, (tt, record { fits = is.1 })))) $ learn ! (λ at_u. drop ! $
          let fi : i < 2 ^ 64 = at_u.1.1.fits in lands_as ! at_u.0 refl (tt, (record { fits = lit< tt }, (record { fits = fi }, tt))) $
          first ! $ by_variants ! 18 (whole !) (get_tag ! (vrt ! refl (fld ! refl (stop !))) (whole !)) tt (
            (λ _. sets ! (of_opd ! (get_in ! (vrt ! refl (fld ! refl (stop !))) (in_variant ! 0 0 refl refl (whole !)))) refl (tt, record { fits = fi }) $
                sets ! (addr ! (through ! refl (stop !))) refl (tt, tt) $
                let z2 : Shows.Ghost = ((κs, qs, bounds, (self, (i, tt)), (mut_vals self, (vint w64 i ∷ [], tt))), tt) in
                nothing ! $ owned ! usize _ (uint_Makes 𝓛 w64) i _ (refl, fi) $ fjoin ! $ move ! (2 ∷ 0 ∷ []) $ fjoin ! $
                nothing ! $ move ! (3 ∷ 0 ∷ []) $ join ! $ move ! (3 ∷ 0 ∷ []) $ join ! $ move ! (2 ∷ 0 ∷ []) $ join ! $ join ! $
                tells ! (i < length mm.entries) within $ tells ! (κV ⊑ V.lives) lV $ tells ! (κK ⊑ K.lives) lK $ group ! 3 $ move ! (1 ∷ 0 ∷ []) $ join ! $ use1 𝓛 (raw (Shows.pre z2)) (id⊢ 𝓤 _) $
                calls_at ! fm Shows shows z2 (and_then ! (get ! refl) (and_then ! (get ! refl) (no_more !))) (λ t.
                use1 𝓛 (later (some (λ (x : Bor K.Denot × MutBor V.Denot). ((‵ (flft κ q) ⊛ ‵ (flft κK qK) ⊛ ‵ (flft κV qV) ⊛ ‵ ftrue) ⊛ ‵ ((Pair κ).own_val x (t ∷ [])))
                ⊛ raw (ensured 𝓛 (e.ended K V E dE P dP) (e.clauses K V E dE P dP 𝓛 𝓜.mem 𝓡.returns) z2.0.0 z2.0.3 tt x)))) (id⊢ 𝓤 _) $ await ! tt $ pick ! (λ x. split ! $ move ! (1 ∷ []) $
                use1 𝓛 (‵ (follows R V' γ x.1.ghost_name (with_value_at mm i)) ⊛ raw (fact 𝓤 (option_map pair_of (slice_get mm.entries i) ≡ Some (x.0.now, x.1.now)))) (ex_e 𝓤 _ (λ ws. snd∗ 𝓤 (sem 𝓛 (lasts (e.ended K V E dE P dP) z2.0.0 z2.0.3 ws)) _)) $ split ! $
                move ! (1 ∷ []) $ heard ! _ (λ read. move ! (1 ∷ []) $ split ! $ move ! (1 ∷ []) $
                let ev : Val = entry_val 𝓛 K' V' κ x t in let out : Out = Ok x in
                use1 𝓛 (given (t ≡ ev) (‵ ((Pair κ).own_val x (ev ∷ [])))) (entry_told 𝓛 K' V' κ x t) $ learn ! (λ at_t. lands_as ! at_t refl (tt, (tt, (tt, tt))) $
                sets_last ! (agg ! (and_then ! (lit ! tt) (and_then ! (get ! refl) (no_more !)))) refl (tt, (record { fits = lit< tt }, ((tt, (tt, tt)), tt))) $
                exec ! 𝓣.C 𝓣.Λ En (after 5 fn.body) (at_ret En Ends) $ sets ! (of_opd ! (get ! refl)) refl (tt, (record { fits = lit< tt }, ((tt, (tt, tt)), tt))) $ returns ! (look_at ! 0 refl) $ free_all ! refl $
                -- [the result; the tokens; what self follows]
                use1 𝓛 (‵ ((L.RS.the_row (Pair κ) Back).own_val (Ok x) (live 0 (of_list (ev ∷ [])) ∷ []))) (Ok-of 𝓛 (Pair κ) Back x ev) $
                move ! (2 ∷ []) $ use1 𝓛 (‵ (lends_inserted K' V' P r key out)) (so_follows 𝓛 R V' γ (λ y n. OnOk out (IsInserted m n key y)) (λ n. OnErr out (IsRefused m n)) m tt x.1.ghost_name (with_value_at mm i) (inserted_written m mm key value i last new)) $
                move ! (1 ∷ 2 ∷ 0 ∷ []) $ by ! (ends K V Key (λ key. key) P 𝓛 κs qs bounds r key value k v (live 0 (of_list (ev ∷ []))) out (inserted_shown m mm key value i last new x.0.now x.1.now read) tt tt)))))),
            ((λ e. absurd (suc-ne-zero 0 (sym e))), tt),
          ))
      | inr w ↦
          let out : Out = Err w.0 in rewrite ! 0 (λ (h : Got). ‵ ((L.RS.the_row usize Back).own_val h (u ∷ []))) w.1 refl $
          use1 𝓛 (some (λ (ev : Val). given ((u ≡ live 1 (vcons ev vnil)) × Good (layout Back) ev) (‵ (Back.own_val w.0 (ev ∷ []))))) (in_err 𝓛 usize Back u w.0 (lone_value 𝓛 Back back_laws w.0)) $ pick ! (λ ev. learn ! (λ at_u.
          let stored : Good (layout (L.RS.the_row usize Back)) (live 1 (vcons ev vnil)) = (and_tt _ at_u.1.0, (record { fits = lit< tt }, (at_u.1.1, tt))) in
          move ! (2 ∷ []) $ use1 𝓛 (later (‵ (fres γ (R.coded.code mm)))) (given_up 𝓛 R (named 0) κ self) $ await ! tt $
          -- [what self ends as; the error; the tokens of κ, κV, κK]
          lands_as ! at_u.0 refl stored $
          first ! $ by_variants ! 19 (whole !) (get_tag ! (vrt ! refl (fld ! refl (stop !))) (whole !)) tt (
            (λ e. absurd (suc-ne-zero 0 e)),
            (
              (λ _. sets ! (of_opd ! (get_in ! (vrt ! refl (fld ! refl (stop !))) (in_variant ! 1 0 refl refl (whole !)))) refl at_u.1 $ sets ! (of_opd ! (get ! refl)) refl at_u.1 $
                  sets_last ! (agg ! (and_then ! (lit ! tt) (and_then ! (get ! refl) (no_more !)))) refl (and_tt _ at_u.1.0, (record { fits = lit< tt }, (at_u.1.1, tt))) $
                  exec ! 𝓣.C 𝓣.Λ En (after 5 fn.body) (at_ret En Ends) $ sets ! (of_opd ! (get ! refl)) refl (and_tt _ at_u.1.0, (record { fits = lit< tt }, (at_u.1.1, tt))) $ returns ! (look_at ! 0 refl) $ free_all ! refl $
                  use1 𝓛 (‵ (lends_inserted K' V' P r key out)) (so_rests 𝓛 R V' γ (λ y n. OnOk out (IsInserted m n key y)) (λ n. OnErr out (IsRefused m n)) mm (rw w.1 at refused) (λ _. tt)) $
                  move ! (1 ∷ []) $ use1 𝓛 (‵ ((L.RS.the_row (Pair κ) Back).own_val (Err w.0) (live 1 (of_list (ev ∷ [])) ∷ []))) (Err-of 𝓛 (Pair κ) Back w.0 ev) $
                  -- [the result; what self follows; the tokens of κ, κV, κK]
                  nothing ! $ move ! (4 ∷ 0 ∷ []) $ join ! $ move ! (4 ∷ 0 ∷ []) $ join ! $ move ! (3 ∷ 0 ∷ []) $ join ! $ move ! (1 ∷ 0 ∷ 2 ∷ []) $
                  by ! (ends K V Key (λ key. key) P 𝓛 κs qs bounds r key value k v (live 1 (of_list (ev ∷ []))) out tt (rw w.1 at full) (rw w.1 at back))),
              tt,
            ),
          )))
    ]))))))))))))
