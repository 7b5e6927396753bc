-- `lend_values` lends the map inside; the dictionary, open over the call, is closed by what that follows. Assumes `Logic`.
use Rattle.starlark_columns.proofs.LogicNames.{◌≡◌, refl, sym, ap, subst, ◌∙◌, ◌+◌, ◌<◌, ◌^◌, List, [], ◌∷◌, length, full_share, a_type, dcons, dnil, named, named_lft, inst_fn, Val, SProp, id⊢, ex_e, snd∗, Lft, GName, Share, ftrue, fsep, flft, fauth, sem, ◌⊑◌, fact, tables, framed, proved, leaves, ages, bor_new_deep, open_ref, name_new, ‵, raw, ◌⊛◌, some, later, ◌$◌, ◌∵◌, !, qed, by, move, keep, drop, use1, use2, split, split3, join, pick, fsplit, fsplit3, fjoin, fjoin3, fpack, feq_i, await, group, stop, fld, addr, and_then, no_more, returns, enter, alloc_all, pass_all, free_all, look_at, get, through, sets, lands_as, follows, shows, RattleType, owns, mem, part_at, param, bounded, param_laws, MutBor, mut_vals, mut_Tells, types_at, nothing, heard, peeks, calls_at, ensured, lasts, triple_of, Contract, walk_of, map, tells, spent, drops, drops_go}
use base.Share
use Rattle.starlark_columns.proofs.NamedLoan.{closes_named}
use Rattle.starlark_columns.proofs.ProofSteps.{good_value}
use Rattle.starlark_hash.specs.Entries.{pair_of}
use Rattle.starlark_vec2.proofs.RenamedLoan.{renamed}
use Rattle.starlark_vec2.proofs.pairs_mut.PairsMut.TheLaws as pairs_laws
use Rattle.starlark_vec2.specs.contracts.pairs_mut.PairsMut as pairs
use Rattle.starlark_vecmap.specs.EntryList as list
use Rattle.starlark_small.specs.Map.{Map}
use Rattle.starlark_small.specs.Lend.{KeepsAllButValues}
use Rattle.starlark_small.specs.contracts.small_map.SmallMap.iter_mut as g
use Rattle.starlark_small.proofs.CallerOwn.{own-with_values}
use Rattle.starlark_small.proofs.small_map.SmallMap.iter_mut.Met as walks
use Rattle.std_collections.specs.Layout.HashMapValues.{with_values}
use Rattle.starlark_dict.specs.Dict.{values}
use Rattle.starlark_dict.specs.contracts.dict.Dict.lend_values as contract
use Rattle.starlark_dict.proofs.DictOpen as O
use Rattle.starlark_dict.proofs.OwnPairs.{length-pairs}
use Rattle.starlark_dict.proofs.Walked.{with_values-again}
use Rattle.starlark_dict.proofs.dict.Dict.lend_values as routine

pub lend_values_spec : {M : Type 1} → routine.Statement.statement M
lend_values_spec 𝓤 𝓛 𝓜 𝓡 wired A B LA LB E dE P dP G dG is_eq is_partial is_hash =
    let 𝓣 = tables 𝓤 𝓛.H 𝓜 𝓡 𝓡.env in let En = contract.ended A B E dE P dP G dG in let hs = drops En in
    let inst = bounded (a_type ∷ a_type ∷ []) (A, (B, tt)) (dcons dE (dcons dP (dcons dG dnil))) in let fn = inst_fn inst routine.Code.function in
    let c = contract.clauses A B E dE P dP G dG 𝓛 𝓜.mem 𝓡.returns in let K : RattleType = param 0 A in let V : RattleType = param 1 B in let LK = param_laws 0 A LA in let LV = param_laws 1 B LB in
    let W : RattleType = O.W K V P G in let CP : RattleType = O.CP K V P G in let D : Type 0 = O.D K V P G in let Rep : Type 0 = Map A.Denot B.Denot in
    -- the map inside with the values of w
    let with : Rep → Rep → Rep = λ m w. record m { entries = list.with_values m.entries w.entries } in
    let Run : Contract 𝓤 = triple_of 𝓛 (g.signature A B E dE P dP) (g.spec A B E dE P dP 𝓛 𝓜.mem 𝓡.returns) in
    let met = walks.met 𝓤 𝓛 𝓜 𝓡 (routine.Code.calls-starlark_small::small_map::SmallMap::iter_mut 𝓡.env wired) A B LA LB E dE P dP is_eq is_partial in
    proved 𝓛 En hs c 𝓜 𝓡 (drops_go 𝓛 En (λ κs x f. refl, tt)) (contract.Key.name inst) fn (routine.Code.unfolded 𝓤 𝓛.H 𝓜 𝓡 wired (A, (B, tt)) dE dP dG)
    (λ κs. (mut_vals, tt)) (λ κs. (mut_Tells (named 0) κs.0 W, tt)) (λ κs qs bounds a gh are.
    let κ : Lft = κs.0 in let q : Share = qs.0 in let κA : Lft = κs.1.0 in let qA : Share = qs.1.0 in let κB : Lft = κs.1.1.0 in let qB : Share = qs.1.1.0 in
    let self : MutBor W.Denot = a.0 in let b = self.ref_ptr.0 in let o = self.ref_ptr.1 in let v : W.Denot = self.now in let γ : GName = self.ghost_name in
    let lft = named_lft 3 0 tt κs in let It : RattleType = pairs.the_row lft K V in let y : (walk_of 𝓛 En hs c).Ghost = ((κs, qs, bounds, a, (mut_vals self, tt)), gh) in
    qed 𝓛 (((‵ (flft κ q) ⊛ ‵ (flft κA qA) ⊛ ‵ (flft κB qB) ⊛ ‵ ftrue) ⊛ ‵ (owns (types_at En.signature.params κs) a y.0.4)) ∷ raw (fact 𝓤 (κA ⊑ A.lives)) ∷ raw (fact 𝓤 (κB ⊑ B.lives)) ∷ ‵ ftrue ∷ []) ∵
    move ! (1 ∷ 2 ∷ []) $ heard ! _ (λ la. heard ! _ (λ lb. split ! $ split3 ! $ move ! (2 ∷ []) $ split ! $ move ! (4 ∷ []) $ fsplit ! $ keep ! (4 ∷ 0 ∷ 5 ∷ 2 ∷ 3 ∷ []) $
    -- [the token of κ; the map; the tokens of κA, κB; nothing]
    enter ! _ _ _ _ _ $ alloc_all ! (λ l. pass_all ! refl ((tt, tt), tt) $
    sets ! (addr ! (through ! refl (fld ! refl (stop !)))) refl (tt, tt) $
    -- half of κ's token opens the map, and half goes into the call
    use1 𝓛 (‵ (flft κ (Share.left q)) ⊛ ‵ (flft κ (Share.right q))) (𝓛.lfts.lft_split κ q) $ split ! $ move ! (2 ∷ []) $ fsplit3 ! $ drop ! $ move ! (0 ∷ 1 ∷ 2 ∷ []) $ open_ref ! tt (mem W) {b = b} {o = o} $
    use1 𝓛 (some (λ (d : (d : D) × O.Known K V P G v d). raw (O.Cuts K V P G 𝓛 b o v d))) (O.cut K V P G 𝓛 b o LK LV v) $ pick ! (λ d'.
    let d = d'.0 in let m = d.map in let place = o + O.eP K V P G in let Rest : SProp 𝓤 = O.Rest K V P G 𝓛 b o d in
    -- the dictionary with the values of w
    let written : Rep → D = λ w. record d { map = with m w } in let seen : Rep → W.Denot = λ w. O.C.the_view K V P G (written w) in let keeps : W.Denot → W.Denot = λ n. with_values v (values n) in
    let same : (w : Rep) → keeps (seen w) ≡ seen w = λ w. rw (← d'.1.0) (with_values-again m w.entries) in
    use1 𝓛 (‵ (part_at CP full_share m b place) ⊛ raw Rest) (id⊢ 𝓤 _) $ split ! $
    -- [the map inside; the rest; the open borrow; obs; auth; the other half; the tokens of κA, κB; nothing]
    name_new ! tt (CP.coded.code m) (λ δ. move ! (2 ∷ 1 ∷ []) $ fjoin ! $ fpack ! CP.Denot (λ z. fsep ((mem CP).own_at z b place) (fauth δ (CP.coded.code z))) m $
    -- [the content; obs δ; the rest; the open borrow; obs; auth; ..]
    move ! (3 ∷ []) $ ages ! (λ n. move ! (1 ∷ []) $ bor_new_deep ! tt n κ $
    -- [the borrow, its right; the open borrow; obs δ; the rest; obs; auth; the other half; the tokens of κA, κB; nothing]
    let lent : MutBor Rep = record { ref_ptr = (b, place); ghost_name = δ; now = m } in
    move ! (3 ∷ 0 ∷ []) $ feq_i ! (List Val) (mut_vals lent) (mut_vals lent) refl $ fjoin3 ! $ nothing ! $ move ! (1 ∷ 0 ∷ []) $ fjoin ! $ move ! (6 ∷ 7 ∷ 8 ∷ 9 ∷ 0 ∷ []) $ group ! 4 $ join ! $
    nothing ! $ tells ! (κB ⊑ B.lives) lb $ tells ! (κA ⊑ A.lives) la $ group ! 3 $ move ! (1 ∷ 0 ∷ []) $ join ! $
    let z : Run.Ghost = (((κ, (κA, (κB, tt))), (Share.right q, (qA, (qB, tt))), bounds, (lent, tt), (mut_vals lent, tt)), tt) in
    use1 𝓛 (raw (Run.pre z)) (id⊢ 𝓤 _) $ calls_at ! (framed 𝓤 𝓛.H 𝓜 𝓣) Run met z (and_then ! (get ! refl) (no_more !)) (λ u.
    use1 𝓛 (later (some (λ (x : It.Denot). ((‵ (flft κ (Share.right q)) ⊛ ‵ (flft κA qA) ⊛ ‵ (flft κB qB) ⊛ ‵ ftrue) ⊛ ‵ (It.own_val x (u ∷ [])))
    ⊛ raw (ensured 𝓛 (g.ended A B E dE P dP) (g.clauses A B E dE P dP 𝓛 𝓜.mem 𝓡.returns) z.0.0 z.0.3 tt x)))) (id⊢ 𝓤 _) $ await ! tt $ pick ! (λ x. split ! $ move ! (1 ∷ []) $
    use1 𝓛 (‵ (follows CP CP δ x.1 (with m)) ⊛ raw (fact 𝓤 (x.0 ≡ map pair_of m.entries)) ⊛ raw (fact 𝓤 (length m.entries < 2 ^ 64)) ⊛ raw (fact 𝓤 (KeepsAllButValues P.eq m)))
    (ex_e 𝓤 _ (λ ws. snd∗ 𝓤 (sem 𝓛 (lasts (g.ended A B E dE P dP) z.0.0 z.0.3 ws)) _)) $ split3 ! $ move ! (1 ∷ 2 ∷ []) $ heard ! _ (λ rest. split ! $ heard ! _ (λ fits. drop ! $
    -- [what the map inside follows; the tokens with the walk; the right; the open borrow; the rest; obs; auth]
    move ! (3 ∷ 5 ∷ 6 ∷ 2 ∷ 0 ∷ 4 ∷ []) $ group ! 6 $ use1 𝓛 (later (some (λ (tie : GName). ‵ (flft κ (Share.left q)) ⊛ ‵ (follows W W γ tie keeps))))
    (closes_named 𝓛 (mem W) (mem CP) (mem CP) (with m) seen keeps same κ (Share.left q) b o b place γ δ x.1 Rest
    (λ w. O.shut K V P G 𝓛 b o (seen w) (written w) (refl, own-with_values G.hash_input m.entries w.entries d'.1.1)) n (W.coded.code v) (W.coded.code v) v) $ await ! tt $ pick ! (λ tie. split ! $
    -- [half of κ's token; what the dictionary follows; the tokens with the walk]
    move ! (2 ∷ []) $ split ! $ split3 ! $ move ! (4 ∷ 0 ∷ []) $ use2 𝓛 (‵ (flft κ q)) (𝓛.lfts.lft_join κ q) $ move ! (2 ∷ []) $ split ! $ move ! (4 ∷ 2 ∷ 3 ∷ 0 ∷ 1 ∷ []) $
    -- [the walk; the tokens of κ, κA, κB; nothing; what the dictionary follows]
    peeks ! It _ (shows 𝓛 It) x (u ∷ []) (λ is. lands_as ! refl refl (good_value 𝓛 It (pairs_laws.the_row_laws lft K V LK LV) x u is) $
    let new : It.Denot = (x.0, tie) in use1 𝓛 (‵ (It.own_val new (u ∷ []))) (renamed lft K V 𝓛 x tie (u ∷ [])) $ returns ! (look_at ! 0 refl) $ free_all ! refl $
    move ! (1 ∷ 2 ∷ 3 ∷ 4 ∷ []) $ group ! 4 $ tells ! (length v.entries < 2 ^ 64) (subst (λ n. n < 2 ^ 64) (sym (length-pairs m.entries) ∙ ap (λ (t : W.Denot). length t.entries) d'.1.0) fits) $
    tells ! (x.0 ≡ v.entries) (rest ∙ ap (λ (t : W.Denot). t.entries) d'.1.0) $
    spent ! 1 $ move ! (3 ∷ 0 ∷ 4 ∷ 5 ∷ 1 ∷ 2 ∷ []) $ by ! (leaves 𝓛 En hs c y u new (tt, tt) (tt, tt)))))))))))))))
