-- `iter_mut` lends the map inside to the end of its own loan, and passes on the iterator. Assumes `Logic`.
use Rattle.starlark_columns.proofs.LogicNames.{◌≡◌, refl, ap, ◌∙◌, ◌<◌, ◌^◌, List, [], ◌∷◌, length, a_type, dcons, dnil, named, inst_fn, Val, vptr, SProp, id⊢, ex_e, snd∗, GName, ftrue, sem, ◌⊑◌, fact, tables, ‵, raw, ◌⊛◌, some, later, ◌$◌, ◌∵◌, !, qed, by, move, keep, drop, use1, use2, split, split3, join, pick, fsplit, fjoin, rewrite, Item, await, stop, addr, and_then, no_more, returns, enter, alloc_all, pass_all, free_all, look_at, get, through, sets, lands_as, follows, follows_then, Is, shows, param, bounded, param_laws, RattleType, owns, MutBor, MutRef, NamedLft, mut_vals, mut_Tells, types_at, named_lft, nothing, heard, peeks, only, calls_at, ensured, lasts, triple_of, Contract, framed, walk_of, proved, map, toks, tells, spent, drops, drops_go, leaves, group}
use Rattle.starlark_hash.specs.Entries.{pair_of}
use Rattle.starlark_vec2.proofs.pairs_mut.PairsMut.TheLaws as walk_laws
use Rattle.starlark_vec2.specs.contracts.pairs_mut.PairsMut as P
use Rattle.starlark_vecmap.specs.EntryList.{with_values}
use Rattle.starlark_small.specs.Lend.{KeepsAllButValues}
use Rattle.starlark_small.proofs.KeptInWalks.{keeps-all_but_values}
use Rattle.starlark_small.specs.Map.{Map}
use Rattle.starlark_small.specs.contracts.small_map.SmallMap as S
use Rattle.starlark_small.specs.contracts.small_map.SmallMap.iter_mut as w
use Rattle.starlark_small.proofs.small_map.SmallMap.iter_mut.Met as walks
use Rattle.starlark_small.proofs.LentInResult.{lone_value}
use Rattle.starlark_sets.specs.contracts.ordered_map.OrderedMap as O
use Rattle.starlark_sets.specs.contracts.ordered_map.OrderedMap.as_mut_small_map as i
use Rattle.starlark_sets.specs.contracts.ordered_map.OrderedMap.iter_mut as contract
use Rattle.starlark_sets.proofs.ordered_map.OrderedMap.as_mut_small_map.Met as inside
use Rattle.starlark_sets.proofs.ordered_map.OrderedMap.iter_mut as routine

pub iter_mut_spec : {M : Type 1} → routine.Statement.statement M
iter_mut_spec 𝓤 𝓛 𝓜 𝓡 wired K V LK LV E dE Q dQ is_eq is_partial =
    let H = 𝓛.H in let 𝓣 = tables 𝓤 H 𝓜 𝓡 𝓡.env in let En = contract.ended K V E dE Q dQ in let hs = drops En in let c = contract.clauses K V E dE Q dQ 𝓛 𝓜.mem 𝓡.returns in
    let inst = bounded (a_type ∷ a_type ∷ []) (K, (V, tt)) (dcons dE (dcons dQ dnil)) in let fn = inst_fn inst routine.Code.function in
    let K' : RattleType = param 0 K in let V' : RattleType = param 1 V in let Outer : RattleType = O.the_row K' V' Q in let Inner : RattleType = S.the_row K' V' Q in let Rep : Type 0 = Map K.Denot V.Denot in
    let Inside : Contract 𝓤 = triple_of 𝓛 (i.signature K V E dE Q dQ) (i.spec K V E dE Q dQ 𝓛 𝓜.mem 𝓡.returns) in
    let Walks : Contract 𝓤 = triple_of 𝓛 (w.signature K V E dE Q dQ) (w.spec K V E dE Q dQ 𝓛 𝓜.mem 𝓡.returns) in
    let lends = inside.met 𝓤 𝓛 𝓜 𝓡 (routine.Code.calls-starlark_sets::ordered_map::OrderedMap::as_mut_small_map 𝓡.env wired) K V LK LV E dE Q dQ is_eq is_partial in
    let walked = walks.met 𝓤 𝓛 𝓜 𝓡 (routine.Code.calls-starlark_small::small_map::SmallMap::iter_mut 𝓡.env wired) K V LK LV E dE Q dQ is_eq is_partial in
    proved 𝓛 En hs c 𝓜 𝓡 (drops_go 𝓛 En (λ κs x f. refl, tt)) (contract.Key.name inst) fn (routine.Code.unfolded 𝓤 H 𝓜 𝓡 wired (K, (V, tt)) dE dQ)
    (λ κs. (mut_vals, tt)) (λ κs. (mut_Tells (named 0) κs.0 Outer, tt)) (λ κs qs bounds a gh are.
    let r : MutBor Rep = a.0 in let m : Rep = r.now in let γ : GName = r.ghost_name in let with : Rep → Rep → Rep = λ n n'. record n { entries = with_values n.entries n'.entries } in
    let y : (walk_of 𝓛 En hs c).Ghost = ((κs, qs, bounds, a, (mut_vals r, tt)), gh) in let Post : Val → SProp 𝓤 = (walk_of 𝓛 En hs c).post y in
    let lft : NamedLft = named_lft 3 0 tt κs in let Ref : RattleType = MutRef (named 0) κs.0 Inner in let It : RattleType = P.the_row lft K' V' in
    let LivesK : Type 0 = κs.1.0 ⊑ K.lives in let LivesV : Type 0 = κs.1.1.0 ⊑ V.lives in let tokens : Item 𝓤 = raw (toks 𝓛 3 κs qs) in
    qed 𝓛 ((tokens ⊛ ‵ (owns (types_at En.signature.params κs) a y.0.4)) ∷ raw (fact 𝓤 LivesK) ∷ raw (fact 𝓤 LivesV) ∷ ‵ ftrue ∷ []) ∵
    move ! (1 ∷ 2 ∷ []) $ heard ! LivesK (λ lK. heard ! LivesV (λ lV. split ! $ move ! (1 ∷ []) $ fsplit ! $ keep ! (2 ∷ 0 ∷ []) $
    -- [the tokens; self]
    enter ! 𝓣.C 𝓣.Λ fn (vptr r.ref_ptr.0 r.ref_ptr.1 ∷ []) Post $ alloc_all ! (λ l. pass_all ! refl ((tt, tt), tt) $
    sets ! (addr ! (through ! refl (stop !))) refl (tt, tt) $
    let z : Inside.Ghost = ((κs, qs, bounds, (r, tt), (mut_vals r, tt)), tt) in
    nothing ! $ move ! (2 ∷ 0 ∷ []) $ fjoin ! $ move ! (1 ∷ 0 ∷ []) $ join ! $ nothing ! $ tells ! LivesV lV $ tells ! LivesK lK $ group ! 3 $ move ! (1 ∷ 0 ∷ []) $ join ! $
    use1 𝓛 (raw (Inside.pre z)) (id⊢ 𝓤 _) $ calls_at ! (framed 𝓤 H 𝓜 𝓣) Inside lends z (and_then ! (get ! refl) (no_more !)) (λ u.
    use1 𝓛 (later (some (λ (x : MutBor Rep). (tokens ⊛ ‵ (Ref.own_val x (u ∷ []))) ⊛ raw (ensured 𝓛 (i.ended K V E dE Q dQ) (i.clauses K V E dE Q dQ 𝓛 𝓜.mem 𝓡.returns) z.0.0 z.0.3 tt x)))) (id⊢ 𝓤 _) $ await ! tt $ pick ! (λ x. split ! $ move ! (1 ∷ []) $
    use1 𝓛 (‵ (follows Outer Inner γ x.ghost_name (λ n. n)) ⊛ raw (fact 𝓤 (x.now ≡ m))) (ex_e 𝓤 _ (λ ws. snd∗ 𝓤 (sem 𝓛 (lasts (i.ended K V E dE Q dQ) z.0.0 z.0.3 ws)) _)) $ split ! $
    move ! (1 ∷ []) $ heard ! (x.now ≡ m) (λ same. move ! (1 ∷ []) $ split ! $ move ! (1 ∷ []) $
    -- [the map inside; the tokens; what self follows]
    peeks ! Ref (Is Ref) (shows 𝓛 Ref) x (u ∷ []) (λ shown. let told = mut_Tells (named 0) κs.0 Inner x (u ∷ []) shown in
    rewrite ! 0 (λ (vs : List Val). ‵ (Ref.own_val x vs)) told refl $ lands_as ! (ap only told) refl (tt, tt) $
    let z2 : Walks.Ghost = ((κs, qs, bounds, (x, tt), (mut_vals x, tt)), tt) in
    nothing ! $ move ! (1 ∷ 0 ∷ []) $ fjoin ! $ move ! (1 ∷ 0 ∷ []) $ join ! $ nothing ! $ tells ! LivesV lV $ tells ! LivesK lK $ group ! 3 $ move ! (1 ∷ 0 ∷ []) $ join ! $
    use1 𝓛 (raw (Walks.pre z2)) (id⊢ 𝓤 _) $ calls_at ! (framed 𝓤 H 𝓜 𝓣) Walks walked z2 (and_then ! (get ! refl) (no_more !)) (λ t.
    use1 𝓛 (later (some (λ (p : List (K.Denot × V.Denot) × GName). (tokens ⊛ ‵ (It.own_val p (t ∷ []))) ⊛ raw (ensured 𝓛 (w.ended K V E dE Q dQ) (w.clauses K V E dE Q dQ 𝓛 𝓜.mem 𝓡.returns) z2.0.0 z2.0.3 tt p)))) (id⊢ 𝓤 _) $ await ! tt $ pick ! (λ p. split ! $ move ! (1 ∷ []) $
    use1 𝓛 (‵ (follows Inner Inner x.ghost_name p.1 (with x.now)) ⊛ raw (fact 𝓤 (p.0 ≡ map pair_of x.now.entries)) ⊛ raw (fact 𝓤 (length x.now.entries < 2 ^ 64)) ⊛ raw (fact 𝓤 (KeepsAllButValues Q.eq x.now))) (ex_e 𝓤 _ (λ ws. snd∗ 𝓤 (sem 𝓛 (lasts (w.ended K V E dE Q dQ) z2.0.0 z2.0.3 ws)) _)) $ split3 ! $
    move ! (1 ∷ []) $ heard ! (p.0 ≡ map pair_of x.now.entries) (λ pairs. move ! (1 ∷ []) $ split ! $ heard ! (length x.now.entries < 2 ^ 64) (λ fits. drop ! $
    -- [what the map inside follows; the tokens with the iterator; what self follows]
    rewrite ! 0 (λ (n : Rep). ‵ (follows Inner Inner x.ghost_name p.1 (with n))) same refl $
    move ! (2 ∷ 0 ∷ []) $ use2 𝓛 (‵ (follows Outer Inner γ p.1 (with m))) (follows_then 𝓛 Outer Inner Inner (λ n. n) (with m) γ x.ghost_name p.1) $
    move ! (1 ∷ []) $ split ! $ move ! (1 ∷ []) $
    -- [the iterator; the tokens; what self follows]
    peeks ! It (Is It) (shows 𝓛 It) p (t ∷ []) (λ known. let lone = lone_value 𝓛 It (walk_laws.the_row_laws lft K' V' (param_laws 0 K LK) (param_laws 1 V LV)) p (t ∷ []) known in
    rewrite ! 0 (λ (vs : List Val). ‵ (It.own_val p vs)) lone.1 refl $ lands_as ! (ap only lone.1) refl lone.2 $ returns ! (look_at ! 0 refl) $ free_all ! refl $
    tells ! (KeepsAllButValues Q.eq m) (keeps-all_but_values Q.eq m) $ tells ! (length m.entries < 2 ^ 64) (rw (← same) fits) $
    tells ! (p.0 ≡ map pair_of m.entries) (pairs ∙ ap (λ (n : Rep). map pair_of n.entries) same) $
    spent ! 1 $ move ! (5 ∷ 0 ∷ 4 ∷ 6 ∷ 1 ∷ 2 ∷ 3 ∷ []) $ by ! (leaves 𝓛 En hs c y lone.0 p (tt, tt) (tt, tt)))))))))))))))
