-- `entry` lends the map inside to the end of its own loan, and passes on the entry. Assumes `Logic`.
use Rattle.starlark_columns.proofs.LogicNames.{◌≡◌, refl, sym, subst, ap, List, [], ◌∷◌, a_type, dcons, dnil, named, inst_fn, Val, vptr, ent, id⊢, ex_e, snd∗, GName, ftrue, WpFn, sem, ◌⊑◌, fact, tables, ‵, raw, ◌⊛◌, some, later, ◌$◌, ◌∵◌, !, qed, by, move, keep, use1, split, join, pick, fsplit3, fjoin, rewrite, Item, await, stop, addr, of_opd, and_then, no_more, returns, enter, alloc_all, pass_all, free_all, look_at, get, through, sets, lands_as, no, follows, Is, shows, param, bounded, param_laws, RattleType, owns, MutBor, MutRef, NamedLft, mut_vals, mut_Tells, plain, types_at, named_lft, nothing, heard, peeks, only, calls_at, ensured, lasts, triple_of, Contract, framed, walk_of, Goes-spent_ref, Goes-blank, proved_at, toks, tells, spent, drops, leaves, group}
use Rattle.starlark_columns.proofs.LoneValue.{lone_value}
use Rattle.starlark_small.proofs.entry.Entry.TheLaws as entry_laws
use Rattle.starlark_small.specs.Map.{Map, own_hashed}
use Rattle.starlark_small.specs.MapEntry.{map_of_entry, Enters as IsEntered}
use Rattle.starlark_small.specs.contracts.entry.Entry as R
use Rattle.starlark_small.specs.declared.entry.Entry.{Entry}
use Rattle.starlark_small.specs.contracts.small_map.SmallMap as S
use Rattle.starlark_small.specs.contracts.small_map.SmallMap.entry as e
use Rattle.starlark_small.proofs.small_map.SmallMap.entry.Met as enters
use Rattle.starlark_sets.specs.contracts.ordered_map.OrderedMap as O
use Rattle.starlark_sets.specs.contracts.ordered_map.OrderedMap.as_mut_small_map as i
use Rattle.starlark_sets.specs.contracts.ordered_map.OrderedMap.entry as contract
use Rattle.starlark_sets.proofs.ordered_map.OrderedMap.as_mut_small_map.Met as inside
use Rattle.starlark_sets.proofs.ordered_map.OrderedMap.entry as routine

pub entry_spec : {M : Type 1} → routine.Statement.statement M
entry_spec 𝓤 𝓛 𝓜 𝓡 wired K V LK LV E dE Q dQ G dG dD is_eq is_partial is_hash is_drop =
    let H = 𝓛.H in let 𝓣 = tables 𝓤 H 𝓜 𝓡 𝓡.env in let En = contract.ended K V E dE Q dQ G dG dD in let hs = drops En in let c = contract.clauses K V E dE Q dQ G dG dD 𝓛 𝓜.mem 𝓡.returns in
    let inst = bounded (a_type ∷ a_type ∷ []) (K, (V, tt)) (dcons dE (dcons dQ (dcons dG (dcons dD dnil)))) in let fn = inst_fn inst routine.Code.function in
    let K' : RattleType = param 0 K in let V' : RattleType = param 1 V in let Outer : RattleType = O.the_row K' V' Q in let Inner : RattleType = S.the_row K' V' Q in let Rep : Type 0 = Map K.Denot V.Denot in
    let Inside : Contract 𝓤 = triple_of 𝓛 (i.signature K V E dE Q dQ) (i.spec K V E dE Q dQ 𝓛 𝓜.mem 𝓡.returns) in
    let Enters : Contract 𝓤 = triple_of 𝓛 (e.signature K V E dE Q dQ G dG dD) (e.spec K V E dE Q dQ G dG dD 𝓛 𝓜.mem 𝓡.returns) in
    let lends = inside.met 𝓤 𝓛 𝓜 𝓡 (routine.Code.calls-starlark_sets::ordered_map::OrderedMap::as_mut_small_map 𝓡.env wired) K V LK LV E dE Q dQ is_eq is_partial in
    let gives = enters.met 𝓤 𝓛 𝓜 𝓡 (routine.Code.calls-starlark_small::small_map::SmallMap::entry 𝓡.env wired) K V LK LV E dE Q dQ G dG dD is_eq is_partial is_hash is_drop in
    proved_at 𝓛 En hs c 𝓜 𝓡 (Goes-spent_ref 𝓛 3 (0 ∷ []) tt (plain (λ _. Outer)), (Goes-blank 𝓛 3 (plain (λ _. K')) no (λ κs x f. tt), tt))
    (contract.Key.name inst) fn (routine.Code.unfolded 𝓤 H 𝓜 𝓡 wired (K, (V, tt)) dE dQ dG dD) (λ given are.
    let κs = given.0.0 in let qs = given.0.1 in let bounds = given.0.2 in let a = given.0.3 in let r : MutBor Rep = a.0 in let m : Rep = r.now in let γ : GName = r.ghost_name in let key : K.Denot = a.1.0 in
    let one = lone_value 𝓛 K' (param_laws 0 K LK) key given.0.4.1.0 are.1.0 in let k : Val = one.0 in let self_is = mut_Tells (named 0) κs.0 Outer r given.0.4.0 are.0 in
    let Walk : Contract 𝓤 = walk_of 𝓛 En hs c in let y : Walk.Ghost = ((κs, qs, bounds, a, (mut_vals r, (k ∷ [], tt))), given.1) in
    let lft : NamedLft = named_lft 3 0 tt κs in let Ref : RattleType = MutRef (named 0) κs.0 Inner in let Out : RattleType = R.the_row lft K' V' Q in
    let LivesK : Type 0 = κs.1.0 ⊑ K.lives in let LivesV : Type 0 = κs.1.1.0 ⊑ V.lives in let tokens : Item 𝓤 = raw (toks 𝓛 3 κs qs) in
    let Says : Rep → Entry K.Denot V.Denot Q → Type 0 = λ n p. IsEntered Q.eq n (own_hashed G.hash_input key) p in
    subst (λ (us : List Val × (List Val × Unit {0})). ent 𝓤 (Walk.pre ((κs, qs, bounds, a, us), given.1)) (WpFn 𝓤 H 𝓣.C 𝓣.Λ fn (Walk.args ((κs, qs, bounds, a, us), given.1)) (Walk.post ((κs, qs, bounds, a, us), given.1))))
    (sym (λ j. (self_is j, (one.1 j, tt)))) (
    qed 𝓛 ((tokens ⊛ ‵ (owns (types_at En.signature.params κs) a y.0.4)) ∷ raw (fact 𝓤 LivesK) ∷ raw (fact 𝓤 LivesV) ∷ ‵ ftrue ∷ []) ∵
    move ! (1 ∷ 2 ∷ []) $ heard ! LivesK (λ lK. heard ! LivesV (λ lV. split ! $ move ! (1 ∷ []) $ fsplit3 ! $ keep ! (3 ∷ 0 ∷ 1 ∷ []) $
    -- [the tokens; self; the key]
    enter ! 𝓣.C 𝓣.Λ fn (vptr r.ref_ptr.0 r.ref_ptr.1 ∷ k ∷ []) (Walk.post y) $ alloc_all ! (λ l. pass_all ! refl ((tt, tt), (one.2, tt)) $
    sets ! (addr ! (through ! refl (stop !))) refl (tt, tt) $
    let z : Inside.Ghost = ((κs, qs, bounds, (r, tt), (mut_vals r, tt)), tt) in
    nothing ! $ move ! (2 ∷ 0 ∷ []) $ fjoin ! $ move ! (1 ∷ 0 ∷ []) $ join ! $ nothing ! $ tells ! LivesV lV $ tells ! LivesK lK $ group ! 3 $ move ! (1 ∷ 0 ∷ []) $ join ! $
    use1 𝓛 (raw (Inside.pre z)) (id⊢ 𝓤 _) $ calls_at ! (framed 𝓤 H 𝓜 𝓣) Inside lends z (and_then ! (get ! refl) (no_more !)) (λ u.
    use1 𝓛 (later (some (λ (x : MutBor Rep). (tokens ⊛ ‵ (Ref.own_val x (u ∷ []))) ⊛ raw (ensured 𝓛 (i.ended K V E dE Q dQ) (i.clauses K V E dE Q dQ 𝓛 𝓜.mem 𝓡.returns) z.0.0 z.0.3 tt x)))) (id⊢ 𝓤 _) $ await ! tt $ pick ! (λ x. split ! $ move ! (1 ∷ []) $
    use1 𝓛 (‵ (follows Outer Inner γ x.ghost_name (λ n. n)) ⊛ raw (fact 𝓤 (x.now ≡ m))) (ex_e 𝓤 _ (λ ws. snd∗ 𝓤 (sem 𝓛 (lasts (i.ended K V E dE Q dQ) z.0.0 z.0.3 ws)) _)) $ split ! $
    move ! (1 ∷ []) $ heard ! (x.now ≡ m) (λ same. move ! (1 ∷ []) $ split ! $ move ! (1 ∷ []) $
    -- [the map inside; the tokens; what self follows; the key]
    peeks ! Ref (Is Ref) (shows 𝓛 Ref) x (u ∷ []) (λ shown. let told = mut_Tells (named 0) κs.0 Inner x (u ∷ []) shown in
    rewrite ! 0 (λ (vs : List Val). ‵ (Ref.own_val x vs)) told refl $ lands_as ! (ap only told) refl (tt, tt) $ sets ! (of_opd ! (get ! refl)) refl one.2 $
    let z2 : Enters.Ghost = ((κs, qs, bounds, (x, (key, tt)), (mut_vals x, (k ∷ [], tt))), tt) in
    nothing ! $ move ! (4 ∷ 0 ∷ []) $ fjoin ! $ move ! (1 ∷ 0 ∷ []) $ fjoin ! $ move ! (1 ∷ 0 ∷ []) $ join ! $ nothing ! $ tells ! LivesV lV $ tells ! LivesK lK $ group ! 3 $ move ! (1 ∷ 0 ∷ []) $ join ! $
    use1 𝓛 (raw (Enters.pre z2)) (id⊢ 𝓤 _) $ calls_at ! (framed 𝓤 H 𝓜 𝓣) Enters gives z2 (and_then ! (get ! refl) (and_then ! (get ! refl) (no_more !))) (λ t.
    use1 𝓛 (later (some (λ (p : Entry K.Denot V.Denot Q). (tokens ⊛ ‵ (Out.own_val p (t ∷ []))) ⊛ raw (ensured 𝓛 (e.ended K V E dE Q dQ G dG dD) (e.clauses K V E dE Q dQ G dG dD 𝓛 𝓜.mem 𝓡.returns) z2.0.0 z2.0.3 tt p)))) (id⊢ 𝓤 _) $ await ! tt $ pick ! (λ p. split ! $ move ! (1 ∷ []) $
    use1 𝓛 (raw (fact 𝓤 ((map_of_entry p).ghost_name ≡ x.ghost_name)) ⊛ raw (fact 𝓤 (Says x.now p))) (ex_e 𝓤 _ (λ ws. snd∗ 𝓤 (sem 𝓛 (lasts (e.ended K V E dE Q dQ G dG dD) z2.0.0 z2.0.3 ws)) _)) $ split ! $
    heard ! ((map_of_entry p).ghost_name ≡ x.ghost_name) (λ name. heard ! (Says x.now p) (λ is.
    -- [the tokens with the entry; what self follows]
    move ! (1 ∷ []) $ rewrite ! 0 (λ (n : GName). ‵ (follows Outer Inner γ n (λ w. w))) (sym name) refl $ move ! (1 ∷ []) $ split ! $ move ! (1 ∷ []) $
    -- [the entry; the tokens; what self follows]
    peeks ! Out (Is Out) (shows 𝓛 Out) p (t ∷ []) (λ known. let lone = lone_value 𝓛 Out (entry_laws.the_row_laws lft K' V' Q (param_laws 0 K LK) (param_laws 1 V LV)) p (t ∷ []) known in
    rewrite ! 0 (λ (vs : List Val). ‵ (Out.own_val p vs)) lone.1 refl $ lands_as ! (ap only lone.1) refl lone.2 $ returns ! (look_at ! 0 refl) $ free_all ! refl $
    tells ! (Says m p) (subst (λ n. Says n p) same is) $ spent ! 2 $ move ! (3 ∷ 0 ∷ 2 ∷ 4 ∷ 1 ∷ []) $ by ! (leaves 𝓛 En hs c y lone.0 p (tt, (tt, tt)) (tt, (tt, tt)))))))))))))))))
