-- `iter_mut` walks the list of entries; the map, open over the call, is closed by what it follows. Assumes `Logic`.
use Rattle.starlark_columns.proofs.LogicNames.{◌≡◌, refl, sym, ap, ◌∙◌, ◌+◌, List, [], ◌∷◌, full_share, a_type, dcons, dnil, named, inst_fn, Val, id⊢, ex_e, snd∗, GName, ftrue, fsep, flft, fauth, sem, ◌⊑◌, fact, tables, ages, bor_new_deep, open_ref, name_new, ‵, raw, ◌⊛◌, some, later, ◌$◌, ◌∵◌, !, qed, by, move, keep, drop, use1, use2, split, split3, join, pick, fsplit, fsplit3, fjoin, fjoin3, fpack, feq_i, rewrite, await, group, stop, fld, addr, and_then, no_more, returns, enter, alloc_all, pass_all, free_all, look_at, get, through, sets, lands_as, follows, RattleType, owns, mem, param, bounded, layouts, MutBor, NamedLft, mut_vals, mut_Tells, types_at, named_lft, nothing, heard, tells, spent, drops, drops_go, leaves, only, calls_at, ensured, lasts, triple_of, Contract, Triple, walk_of, ◌<◌, ◌^◌, length, map, proved, framed, Is, shows, part_at, param_laws, peeks}
use base.Share
use Rattle.starlark_hash.specs.Entries.{pair_of}
use Rattle.starlark_columns.proofs.NamedLoan.{closes_named}
use Rattle.starlark_columns.proofs.LoneValue.{lone_value}
use Rattle.starlark_vec2.proofs.RenamedLoan.{renamed}
use Rattle.starlark_vec2.proofs.pairs_mut.PairsMut.TheLaws as P-laws
use Rattle.starlark_vec2.specs.contracts.pairs_mut.PairsMut as P-type
use Rattle.starlark_vecmap.specs.contracts.vec_map.VecMap.iter_mut as g
use Rattle.starlark_vecmap.proofs.vec_map.VecMap.iter_mut as walked
use Rattle.starlark_vecmap.proofs.WrittenValues.{with_values-again, length-with_values}
use Rattle.starlark_vecmap.specs.EntryList.{EntryList, with_entries, with_values}
use Rattle.starlark_small.specs.Lend.{KeepsAllButValues}
use Rattle.starlark_small.specs.Map.{Map}
use Rattle.starlark_small.specs.contracts.small_map.SmallMap.iter_mut as contract
use Rattle.starlark_small.proofs.KeptInWalks.{keeps-all_but_values}
use Rattle.starlark_small.proofs.SmallMapOpen as O
use Rattle.starlark_small.proofs.ValuesWritten.{IsSound-with_values}
use Rattle.starlark_small.proofs.small_map.SmallMap.iter_mut as routine

pub iter_mut_spec : {M : Type 1} → routine.Statement.statement M
iter_mut_spec 𝓤 𝓛 𝓜 𝓡 wired A B LA LB E dE P dP is_eq is_partial =
    let 𝓣 = tables 𝓤 𝓛.H 𝓜 𝓡 𝓡.env in let args = bounded (a_type ∷ a_type ∷ []) (A, (B, tt)) (dcons dE (dcons dP dnil)) in let fn = inst_fn args routine.Code.function in
    let En = contract.ended A B E dE P dP in let clauses = contract.clauses A B E dE P dP 𝓛 𝓜.mem 𝓡.returns in let hs = drops En in
    let K : RattleType = param 0 A in let V : RattleType = param 1 B in let W : RattleType = O.W K V P in let CP : RattleType = O.CP K V P in let LK = param_laws 0 A LA in let LV = param_laws 1 B LB in
    let Es : Type 0 = EntryList A.Denot B.Denot in let Pairs : Type 0 = List (A.Denot × B.Denot) × GName in let kept : Es → Es → Es = λ v w. with_entries v (with_values v.entries w.entries) in
    let Run : Contract 𝓤 = triple_of 𝓛 (g.signature A B) (g.spec A B 𝓛 𝓜.mem 𝓡.returns) in
    let run : Triple 𝓤 (𝓣.C (walked.Symbol.name (layouts (a_type ∷ a_type ∷ []) (A, (B, tt))))) Run = walked.Met.met 𝓤 𝓛 𝓜 𝓡 (routine.Code.calls-starlark_vecmap::vec_map::VecMap::iter_mut 𝓡.env wired) A B LA LB in
    proved 𝓛 En hs clauses 𝓜 𝓡 (drops_go 𝓛 En (λ κs x f. refl, tt)) (contract.Key.name args) fn (routine.Code.unfolded 𝓤 𝓛.H 𝓜 𝓡 wired (A, (B, tt)) dE dP)
    (λ κs. (mut_vals, tt)) (λ κs. (mut_Tells (named 0) κs.0 W, tt)) (λ κs qs bounds a gh are.
    let κ = κs.0 in let κA = κs.1.0 in let κB = κs.1.1.0 in let q = qs.0 in let qA = qs.1.0 in let qB = qs.1.1.0 in let lft : NamedLft = named_lft 3 0 tt κs in let It : RattleType = P-type.the_row lft K V in
    let r : MutBor W.Denot = a.0 in let b = r.ref_ptr.0 in let o = r.ref_ptr.1 in let v : W.Denot = r.now in let γ = r.ghost_name in let y : (walk_of 𝓛 En hs clauses).Ghost = ((κs, qs, bounds, a, (mut_vals r, tt)), gh) in
    qed 𝓛 (((‵ (flft κ q) ⊛ ‵ (flft κA qA) ⊛ ‵ (flft κB qB) ⊛ ‵ ftrue) ⊛ ‵ (owns (types_at En.signature.params κs) a y.0.4)) ∷ raw (fact 𝓤 (κA ⊑ A.lives)) ∷ raw (fact 𝓤 (κB ⊑ B.lives)) ∷ ‵ ftrue ∷ []) ∵
    move ! (1 ∷ 2 ∷ []) $ heard ! _ (λ la. heard ! _ (λ lb. split ! $ split3 ! $ move ! (2 ∷ []) $ split ! $ move ! (4 ∷ []) $ fsplit ! $ keep ! (4 ∷ 5 ∷ 2 ∷ 0 ∷ []) $
    -- [the tokens of κ, κA, κB; the list]
    enter ! _ _ _ _ _ $ alloc_all ! (λ l. pass_all ! refl ((tt, tt), tt) $
    sets ! (addr ! (through ! refl (fld ! refl (stop !)))) refl (tt, tt) $
    use1 𝓛 (‵ (flft κ (Share.left q)) ⊛ ‵ (flft κ (Share.right q))) (𝓛.lfts.lft_split κ q) $ split ! $
    move ! (4 ∷ []) $ fsplit3 ! $ drop ! $ open_ref ! tt (mem W) {b = b} {o = o} $
    use1 𝓛 (some (λ (d : (d : O.D K V P) × O.Known K V P v d). raw (O.Cuts K V P 𝓛 b o v d))) (O.cut K V P 𝓛 b o LK LV v) $ pick ! (λ d'.
    -- the field and the map with the values of w
    let d = d'.0 in let xs = d.entries in let index = o + O.eP K V P in let written : Es → O.D K V P = λ w. record d { entries = kept xs w } in let seen : Es → W.Denot = λ w. O.C.the_view K V P (written w) in
    let keeps : W.Denot → W.Denot = λ w. record v { entries = with_values v.entries w.entries } in
    let same : (w : Es) → keeps (seen w) ≡ seen w = λ w. rw (← d'.1.0, with_values-again xs.entries w.entries, length-with_values xs.entries w.entries) refl in
    use1 𝓛 (‵ (part_at CP full_share xs b index) ⊛ raw (O.Rest K V P 𝓛 b o d)) (id⊢ 𝓤 _) $ split ! $
    -- [the pairs; the rest; the open borrow; obs; auth; half of κ's token; those of κA, κB]
    name_new ! tt (CP.coded.code xs) (λ δ. move ! (2 ∷ 1 ∷ []) $ fjoin ! $ fpack ! CP.Denot (λ z. fsep ((mem CP).own_at z b index) (fauth δ (CP.coded.code z))) xs $
    -- [the content; obs δ; the rest; the open borrow; obs; auth; ..]
    move ! (3 ∷ []) $ ages ! (λ n. move ! (1 ∷ []) $ bor_new_deep ! tt n κ $
    -- [the borrow, its right; the open borrow; obs δ; the rest; obs; auth; the other half; tokens of κA, κB]
    let lent : MutBor Es = record { ref_ptr = (b, index); ghost_name = δ; now = xs } in
    move ! (3 ∷ 0 ∷ []) $ feq_i ! (List Val) (mut_vals lent) (mut_vals lent) refl $ fjoin3 ! $ nothing ! $ move ! (1 ∷ 0 ∷ []) $ fjoin ! $
    -- [the argument; the right; the open borrow; the rest; obs; auth; the other half; the tokens of κA, κB]
    nothing ! $ move ! (9 ∷ 0 ∷ []) $ join ! $ move ! (8 ∷ 0 ∷ []) $ join ! $ move ! (7 ∷ 0 ∷ []) $ join ! $ join ! $
    nothing ! $ tells ! (κB ⊑ B.lives) lb $ join ! $ tells ! (κA ⊑ A.lives) la $ join ! $ move ! (1 ∷ 0 ∷ []) $ join ! $
    let z : Run.Ghost = ((κs, (Share.right q, (qA, (qB, tt))), bounds, (lent, tt), (mut_vals lent, tt)), tt) in use1 𝓛 (raw (Run.pre z)) (id⊢ 𝓤 _) $
    calls_at ! (framed 𝓤 𝓛.H 𝓜 𝓣) Run run z (and_then ! (get ! refl) (no_more !)) (λ u.
    use1 𝓛 (later (some (λ (x : Pairs). ((‵ (flft κ (Share.right q)) ⊛ ‵ (flft κA qA) ⊛ ‵ (flft κB qB) ⊛ ‵ ftrue) ⊛ ‵ (It.own_val x (u ∷ []))) ⊛ raw (ensured 𝓛 (g.ended A B) (g.clauses A B 𝓛 𝓜.mem 𝓡.returns) z.0.0 z.0.3 tt x)))) (id⊢ 𝓤 _) $ await ! tt $
    pick ! (λ x. split ! $ move ! (1 ∷ []) $
    use1 𝓛 (‵ (follows CP CP δ x.1 (kept xs)) ⊛ raw (fact 𝓤 (x.0 ≡ map pair_of xs.entries)) ⊛ raw (fact 𝓤 (length xs.entries < 2 ^ 64))) (ex_e 𝓤 _ (λ ws. snd∗ 𝓤 (sem 𝓛 (lasts (g.ended A B) z.0.0 z.0.3 ws)) _)) $
    split3 ! $ move ! (1 ∷ 2 ∷ []) $ heard ! _ (λ rest. heard ! _ (λ fits.
    -- [what the pairs follow; the tokens with the walk; the right; the open borrow; the rest; obs; auth]
    move ! (3 ∷ 5 ∷ 6 ∷ 2 ∷ 0 ∷ 4 ∷ []) $ group ! 6 $
    use1 𝓛 (later (some (λ (tie : GName). ‵ (flft κ (Share.left q)) ⊛ ‵ (follows W W γ tie keeps))))
    (closes_named 𝓛 (mem W) (mem CP) (mem CP) (kept xs) seen keeps same κ (Share.left q) b o b index γ δ x.1 (O.Rest K V P 𝓛 b o d)
    (λ w. O.shut K V P 𝓛 b o (seen w) (written w) (refl, IsSound-with_values P.eq xs.entries w.entries d.index d'.1.1)) n (W.coded.code v) (W.coded.code v) v) $ await ! tt $ pick ! (λ tie. split ! $
    -- [half of κ's token; what the list follows; the tokens with the walk]
    move ! (2 ∷ []) $ split ! $ split3 ! $ move ! (4 ∷ 0 ∷ []) $ use2 𝓛 (‵ (flft κ q)) (𝓛.lfts.lft_join κ q) $ move ! (2 ∷ []) $ split ! $
    -- [the token of κB; nothing; that of κ; that of κA; the walk; what the list follows]
    move ! (4 ∷ []) $ peeks ! It (Is It) (shows 𝓛 It) x (u ∷ []) (λ is. let lone = lone_value 𝓛 It (P-laws.the_row_laws lft K V LK LV) x (u ∷ []) is in
    rewrite ! 0 (λ (us : List Val). ‵ (It.own_val x us)) lone.1 refl $ lands_as ! (ap only lone.1) refl lone.2 $
    let new : Pairs = (x.0, tie) in use1 𝓛 (‵ (It.own_val new (lone.0 ∷ []))) (renamed lft K V 𝓛 x tie (lone.0 ∷ [])) $
    returns ! (look_at ! 0 refl) $ free_all ! refl $ move ! (1 ∷ 2 ∷ []) $ join ! $ move ! (3 ∷ 0 ∷ []) $ join ! $ move ! (2 ∷ 0 ∷ []) $ join ! $
    -- [the tokens; the walk; what the list follows]
    tells ! (KeepsAllButValues P.eq v) (keeps-all_but_values P.eq v) $ tells ! (length v.entries < 2 ^ 64) (rw (ap (λ (m : Map A.Denot B.Denot). length m.entries) (sym d'.1.0)) fits) $ join ! $
    tells ! (new.0 ≡ map pair_of v.entries) (rest ∙ ap (λ (m : Map A.Denot B.Denot). map pair_of m.entries) d'.1.0) $ join ! $ move ! (3 ∷ 0 ∷ []) $ join ! $
    spent ! 1 $ move ! (2 ∷ 0 ∷ 3 ∷ 1 ∷ []) $ by ! (leaves 𝓛 En hs clauses y lone.0 new (tt, tt) (tt, tt)))))))))))))))
