-- `insert_unique_unchecked` meets its contract, at any key and value types: the key is put under its own hash, the next call inserts it and lends it with its value, and the last takes a refused key out of its hash. Assumes `Logic`.
use Rattle.starlark_columns.proofs.LogicNames.{◌≡◌, refl, ap, subst, [], ◌∷◌, a_type, dcons, dnil, named, tcons, tnil, ty_ptr, ty_struct, inst_fn, ent, emp, id⊢, ex_e, snd∗, Fml, Lft, ftrue, flft, sem, ⊑_meet, ⊑_refl, ⊑_trans, ◌⊑◌, fact, tables, ‵, raw, ◌⊛◌, some, later, ◌$◌, ◌∵◌, !, qed, by, move, use0, use1, split, split3, join, pick, fjoin, await, rewrite, group, stop, addr, of_opd, and_then, no_more, returns, enter, alloc_all, pass_all, free_all, look_at, get, through, sets, lands_as, yes, RattleType, lives_all, Is, shows, arg, param, bounded, layouts, Laws, arg_laws, param_laws, in_all, Bor, MutBor, MutRef, ShrRef, mut_vals, nothing, heard, tells, peeks, Tuple, tuple_laws, calls_at, ensured, lasts, triple_of, Contract, Triple, framed, result_laws, Result, Ok, Err, None, IfOk, IfErr, OnErr}
use Rattle.starlark_hash.proofs.hashed.Hashed.new as hash
use Rattle.starlark_hash.specs.contracts.hashed.Hashed.new as n
use Rattle.starlark_small.specs.Map.{Map, own_hashed}
use Rattle.starlark_small.specs.Lend.{unhashed}
use Rattle.starlark_small.specs.contracts.small_map.SmallMap.insert_hashed_unique_unchecked as p
use Rattle.starlark_small.specs.contracts.small_map.insert.without_hash as w
use Rattle.starlark_small.specs.contracts.small_map.SmallMap.insert_unique_unchecked as contract
use Rattle.starlark_columns.proofs.ProofSteps.{mut_laws, shr_laws, good_value}
use Rattle.std.specs.declared.cmp.PartialEq as PartialEq
use Rattle.starlark_small.proofs.PutLent as L
use Rattle.starlark_small.proofs.PutLent.{Hashed, NoRoom, ends, found, hash_of, key_of, lends_inserted, meets}
use Rattle.starlark_small.proofs.small_map.SmallMap.insert_hashed_unique_unchecked as insert
use Rattle.starlark_small.proofs.small_map.insert.without_hash as without
use Rattle.starlark_small.proofs.small_map.SmallMap.insert_unique_unchecked as routine

-- what is known of an insertion's answer, once a refused key has lost its hash
told_unhashed : {A B C : Type 0} (answer : Result A (NoRoom (Hashed B × C))) (P : A → Type 0) (Q : Type 0) (key : Hashed B) (value : C) → IfOk answer P → OnErr answer Q → IfErr answer (λ back. back.0 ≡ (key, value))
    → IfOk (unhashed answer) P × OnErr (unhashed answer) Q × IfErr (unhashed answer) (λ back. back.0 ≡ (key_of key, value))
told_unhashed (Ok x) P Q key value shown full back = (shown, full, tt)
told_unhashed (Err e) P Q key value shown full back = (tt, full, ap (λ p. (key_of p.0, p.1)) back)

lent_unhashed : (K V : RattleType) (g : PartialEq.Ghosts K.Denot) (s : MutBor (Map K.Denot V.Denot)) (key : Hashed K.Denot) (answer : Result (Bor K.Denot × MutBor V.Denot) (NoRoom (Hashed K.Denot × V.Denot)))
    → lends_inserted K V g s key answer ≡ lends_inserted K V g s key (unhashed answer)
lent_unhashed K V g s key (Ok x) = refl
lent_unhashed K V g s key (Err e) = refl

pub insert_unique_unchecked_spec : {M : Type 1} → routine.Statement.statement M
insert_unique_unchecked_spec 𝓤 𝓛 𝓜 𝓡 wired K V LK LV E dE P dP G dG is_eq is_partial is_hash =
    let 𝓣 = tables 𝓤 𝓛.H 𝓜 𝓡 𝓡.env in let fm = framed 𝓤 𝓛.H 𝓜 𝓣 in let args = bounded (a_type ∷ a_type ∷ []) (K, (V, tt)) (dcons dE (dcons dP (dcons dG dnil))) in let fn = inst_fn args routine.Code.function in
    let K' : RattleType = param 0 K in let V' : RattleType = param 1 V in let Key : RattleType = L.H.the_row K' in let R : RattleType = L.S.the_row K' V' P in
    let Back : RattleType = L.N.the_row (Tuple (K' ∷ V' ∷ [])) in let HashedBack : RattleType = L.N.the_row (Tuple (Key ∷ V' ∷ [])) in let Pair = λ (κ : Lft). Tuple (ShrRef (named 0) κ K' ∷ MutRef (named 0) κ V' ∷ []) in
    let LK' = param_laws 0 K LK in let LV' = param_laws 1 V LV in let key_laws : Laws Key = L.hashed_laws.the_row_laws K' LK' in
    let pair_laws = λ (κ : Lft). tuple_laws (ShrRef (named 0) κ K' ∷ MutRef (named 0) κ V' ∷ []) (shr_laws κ K' LK', (mut_laws κ V' LV', tt)) in
    -- the type of the pair, as a call passes it
    let nameless = ty_struct [] (tcons ty_ptr (tcons ty_ptr tnil)) in let Passed = λ (κ : Lft). arg nameless yes (Pair κ) in
    let Out : Type 0 = Result (Bor K.Denot × MutBor V.Denot) (NoRoom (K.Denot × V.Denot)) in
    let Hashes : Contract 𝓤 = triple_of 𝓛 (n.signature K) (n.spec K G dG E dE P dP 𝓛 𝓜.mem 𝓡.returns) in
    let Inserts : Contract 𝓤 = triple_of 𝓛 (p.signature K V E dE P dP) (p.spec K V E dE P dP 𝓛 𝓜.mem 𝓡.returns) in
    let hashes : Triple 𝓤 (𝓣.C (hash.Symbol.name (bounded (a_type ∷ []) (K, tt) (dcons dG (dcons dE (dcons dP dnil)))))) Hashes = hash.Met.met 𝓤 𝓛 𝓜 𝓡 (routine.Code.calls-starlark_hash::hashed::Hashed::new 𝓡.env wired) K LK G dG E dE P dP is_hash is_eq is_partial in
    let inserts : Triple 𝓤 (𝓣.C (insert.Symbol.name (bounded (a_type ∷ a_type ∷ []) (K, (V, tt)) (dcons dE (dcons dP dnil))))) Inserts =
    insert.Met.met 𝓤 𝓛 𝓜 𝓡 (routine.Code.calls-starlark_small::small_map::SmallMap::insert_hashed_unique_unchecked 𝓡.env wired) K V LK LV E dE P dP is_eq is_partial in
    meets K V K' (own_hashed G.hash_input) P 𝓛 𝓜 𝓡 LK' LV (λ x f. tt) (contract.Key.name args) fn (routine.Code.unfolded 𝓤 𝓛.H 𝓜 𝓡 wired (K, (V, tt)) dE dP dG) (λ κs qs bounds r key value k v k_good v_good lK lV absent.
    let κ = κs.0 in let κK = κs.1.0 in let κV = κs.1.1.0 in let q = qs.0 in let qK = qs.1.0 in let qV = qs.1.1.0 in let m = r.now in let under : Hashed K.Denot = own_hashed G.hash_input key in
    let Withouts : Contract 𝓤 = triple_of 𝓛 (w.signature (Passed κ) K V) (w.spec (Passed κ) K V 𝓛 𝓜.mem 𝓡.returns) in
    let withouts : Triple 𝓤 (𝓣.C (without.Symbol.name (layouts (a_type ∷ a_type ∷ a_type ∷ []) (Passed κ, (K, (V, tt)))))) Withouts =
    without.Met.met 𝓤 𝓛 𝓜 𝓡 (routine.Code.calls-starlark_small::small_map::insert::without_hash 𝓡.env wired) (Passed κ) K V (arg_laws nameless yes (Pair κ) (pair_laws κ) refl) LK LV in
    qed 𝓛 (‵ (flft κ q) ∷ ‵ (flft κK qK) ∷ ‵ (flft κV qV) ∷ ‵ ((MutRef (named 0) κ R).own_val r (mut_vals r)) ∷ ‵ (K'.own_val key (k ∷ [])) ∷ ‵ (V'.own_val value (v ∷ [])) ∷ []) ∵
    -- [the tokens of κ, κK, κV; self; the key; the value]
    enter ! _ _ _ _ _ $ alloc_all ! (λ l. pass_all ! refl ((tt, tt), (k_good, (v_good, tt))) $
    sets ! (addr ! (through ! refl (stop !))) refl (tt, tt) $ sets ! (of_opd ! (get ! refl)) refl k_good $
    let y : Hashes.Ghost = (((κK, tt), (qK, tt), tt, (key, tt), (k ∷ [], tt)), tt) in
    nothing ! $ move ! (5 ∷ 0 ∷ []) $ fjoin ! $ nothing ! $ move ! (3 ∷ 0 ∷ []) $ join ! $ join ! $
    use0 𝓛 (raw (emp 𝓤)) (id⊢ 𝓤 _) $ tells ! (κK ⊑ K.lives) lK $ group ! 2 $ move ! (1 ∷ 0 ∷ []) $ join ! $ use1 𝓛 (raw (Hashes.pre y)) (id⊢ 𝓤 _) $
    calls_at ! fm Hashes hashes y (and_then ! (get ! refl) (no_more !)) (λ h.
    use1 𝓛 (later (some (λ (x : Hashed K.Denot). ((‵ (flft κK qK) ⊛ ‵ ftrue) ⊛ ‵ (Key.own_val x (h ∷ []))) ⊛ raw (ensured 𝓛 (n.ended K G dG E dE P dP) (n.clauses K G dG E dE P dP 𝓛 𝓜.mem 𝓡.returns) y.0.0 y.0.3 tt x)))) (id⊢ 𝓤 _) $ await ! tt $
    pick ! (λ x. split ! $ move ! (1 ∷ []) $
    use1 𝓛 (raw (fact 𝓤 (x ≡ under))) (ex_e 𝓤 _ (λ ws. snd∗ 𝓤 (sem 𝓛 (lasts (n.ended K G dG E dE P dP) y.0.0 y.0.3 ws)) _)) $ heard ! (x ≡ under) (λ is_under.
    split ! $ move ! (1 ∷ []) $ rewrite ! 0 (λ (c : Hashed K.Denot). ‵ (Key.own_val c (h ∷ []))) is_under refl $
    peeks ! Key (Is Key) (shows 𝓛 Key) under (h ∷ []) (λ is_h. lands_as ! refl refl (good_value 𝓛 Key key_laws under h is_h) $
    sets ! (of_opd ! (get ! refl)) refl v_good $ move ! (1 ∷ []) $ split ! $
    -- [the token of κK; nothing; the key under its hash; the tokens of κ, κV; self; the value]
    let z : Inserts.Ghost = ((κs, qs, bounds, (r, (under, (value, tt))), (mut_vals r, (h ∷ [], (v ∷ [], tt)))), tt) in
    nothing ! $ move ! (7 ∷ 0 ∷ []) $ fjoin ! $ move ! (3 ∷ 0 ∷ []) $ fjoin ! $ move ! (5 ∷ 0 ∷ []) $ fjoin ! $
    move ! (4 ∷ 2 ∷ []) $ join ! $ move ! (2 ∷ 0 ∷ []) $ join ! $ move ! (2 ∷ 0 ∷ []) $ join ! $ join ! $
    tells ! (found (P.eq key) (hash_of under) m.entries ≡ None) absent $ tells ! (κV ⊑ V.lives) lV $ tells ! (κK ⊑ K.lives) lK $ group ! 3 $ move ! (1 ∷ 0 ∷ []) $ join ! $ use1 𝓛 (raw (Inserts.pre z)) (id⊢ 𝓤 _) $
    calls_at ! fm Inserts inserts z (and_then ! (get ! refl) (and_then ! (get ! refl) (and_then ! (get ! refl) (no_more !)))) (λ u.
    use1 𝓛 (later (some (λ (g : Result (Bor K.Denot × MutBor V.Denot) (NoRoom (Hashed K.Denot × V.Denot))). ((‵ (flft κ q) ⊛ ‵ (flft κK qK) ⊛ ‵ (flft κV qV) ⊛ ‵ ftrue) ⊛ ‵ ((L.RS.the_row (Pair κ) HashedBack).own_val g (u ∷ [])))
    ⊛ raw (ensured 𝓛 (p.ended K V E dE P dP) (p.clauses K V E dE P dP 𝓛 𝓜.mem 𝓡.returns) z.0.0 z.0.3 tt g)))) (id⊢ 𝓤 _) $ await ! tt $ pick ! (λ g. split ! $ move ! (1 ∷ []) $
    use1 𝓛 (‵ (lends_inserted K' V' P r under g) ⊛ raw (fact 𝓤 (IfOk g (λ s. (s.0.now ≡ key) × (s.1.now ≡ value)))) ⊛ raw (fact 𝓤 (OnErr g (m.room ≡ 0))) ⊛ raw (fact 𝓤 (IfErr g (λ s. s.0 ≡ (under, value))))) (ex_e 𝓤 _ (λ ws. snd∗ 𝓤 (sem 𝓛 (lasts (p.ended K V E dE P dP) z.0.0 z.0.3 ws)) _)) $ split3 ! $
    move ! (1 ∷ 2 ∷ []) $ heard ! _ (λ shown. split ! $ heard ! _ (λ full. heard ! _ (λ back. move ! (1 ∷ []) $ split ! $ move ! (1 ∷ []) $
    -- [what the call gave; the tokens; what self follows]
    let got_laws = result_laws (Pair κ) HashedBack (pair_laws κ) (L.room_laws.the_row_laws (Tuple (Key ∷ V' ∷ [])) (tuple_laws (Key ∷ V' ∷ []) (key_laws, (LV', tt)))) in
    peeks ! (L.RS.the_row (Pair κ) HashedBack) (Is (L.RS.the_row (Pair κ) HashedBack)) (shows 𝓛 (L.RS.the_row (Pair κ) HashedBack)) g (u ∷ []) (λ is_u. lands_as ! refl refl (good_value 𝓛 (L.RS.the_row (Pair κ) HashedBack) got_laws g u is_u) $
    let refs = ShrRef (named 0) κ K' ∷ MutRef (named 0) κ V' ∷ [] in
    let each = in_all κ refs (⊑_meet κ κ K.lives (⊑_refl κ) (⊑_trans κ κK K.lives bounds.0 lK), (⊑_meet κ κ V.lives (⊑_refl κ) (⊑_trans κ κV V.lives bounds.1.0 lV), tt)) in
    let in_pair : κ ⊑ (Pair κ).lives = ⊑_meet κ (lives_all refs) (lives_all refs) each each in let c : Withouts.Ghost = ((κs, qs, tt, (g, tt), (u ∷ [], tt)), tt) in
    nothing ! $ move ! (1 ∷ 0 ∷ []) $ fjoin ! $ move ! (1 ∷ 0 ∷ []) $ join ! $
    use0 𝓛 (raw (emp 𝓤)) (id⊢ 𝓤 _) $ tells ! (κV ⊑ V.lives) lV $ tells ! (κK ⊑ K.lives) lK $ tells ! (κ ⊑ (Pair κ).lives) in_pair $ group ! 4 $ move ! (1 ∷ 0 ∷ []) $ join ! $ use1 𝓛 (raw (Withouts.pre c)) (id⊢ 𝓤 _) $
    calls_at ! fm Withouts withouts c (and_then ! (get ! refl) (no_more !)) (λ t.
    use1 𝓛 (later (some (λ (x : Out). ((‵ (flft κ q) ⊛ ‵ (flft κK qK) ⊛ ‵ (flft κV qV) ⊛ ‵ ftrue) ⊛ ‵ ((L.RS.the_row (Pair κ) Back).own_val x (t ∷ [])))
    ⊛ raw (ensured 𝓛 (w.ended (Passed κ) K V) (w.clauses (Passed κ) K V 𝓛 𝓜.mem 𝓡.returns) c.0.0 c.0.3 tt x)))) (id⊢ 𝓤 _) $ await ! tt $ pick ! (λ x. split ! $ move ! (1 ∷ []) $
    let out : Out = unhashed g in let told = told_unhashed g (λ s. (s.0.now ≡ key) × (s.1.now ≡ value)) (m.room ≡ 0) under value shown full back in
    let out_laws = result_laws (Pair κ) Back (pair_laws κ) (L.room_laws.the_row_laws (Tuple (K' ∷ V' ∷ [])) (tuple_laws (K' ∷ V' ∷ []) (LK', (LV', tt)))) in
    use1 𝓛 (raw (fact 𝓤 (x ≡ out))) (ex_e 𝓤 _ (λ ws. snd∗ 𝓤 (sem 𝓛 (lasts (w.ended (Passed κ) K V) c.0.0 c.0.3 ws)) _)) $ heard ! (x ≡ out) (λ is_out.
    split ! $ move ! (1 ∷ []) $ rewrite ! 0 (λ (s : Out). ‵ ((L.RS.the_row (Pair κ) Back).own_val s (t ∷ []))) is_out refl $
    peeks ! (L.RS.the_row (Pair κ) Back) (Is (L.RS.the_row (Pair κ) Back)) (shows 𝓛 (L.RS.the_row (Pair κ) Back)) out (t ∷ []) (λ is_t. lands_as ! refl refl (good_value 𝓛 (L.RS.the_row (Pair κ) Back) out_laws out t is_t) $
    returns ! (look_at ! 0 refl) $ free_all ! refl $
    -- [the result; the tokens; what self follows]
    move ! (2 ∷ []) $ use1 𝓛 (‵ (lends_inserted K' V' P r under out)) (subst (λ (f : Fml). ent 𝓤 (sem 𝓛 (lends_inserted K' V' P r under g)) (sem 𝓛 f)) (lent_unhashed K' V' P r under g) (id⊢ 𝓤 _)) $
    move ! (1 ∷ 2 ∷ 0 ∷ []) $ by ! (ends K V K' (own_hashed G.hash_input) P 𝓛 κs qs bounds r key value k v t out told.0 told.1 told.2)))))))))))))))))
