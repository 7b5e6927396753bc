-- `lend_fields` meets its contract: it makes two calls, each of which says what its parameter ends as. Assumes `Logic`.
use Rattle.starlark_columns.proofs.LogicNames.{◌≡◌, refl, ℕ, List, [], ◌∷◌, a_type, dcons, dnil, named, named_lft, inst_fn, Val, vstruct, vcons, vnil, SProp, id⊢, ex_e, snd∗, Lft, Share, ftrue, flft, sem, ◌⊑◌, fact, tables, ‵, raw, ◌⊛◌, some, later, ◌$◌, ◌∵◌, !, qed, by, move, keep, use1, use2, split, split3, join, pick, fsplit3, fjoin, group, await, agg, stop, addr, and_then, no_more, returns, enter, alloc_all, pass_all, free_all, look_at, get, through, sets, lands_as, shows, param, bounded, param_laws, RattleType, owns, Bor, MutBor, ShrRef, mut_vals, mut_Tells, types_at, nothing, heard, peeks, Tuple, tuple_laws, calls_at, ensured, lasts, triple_of, Contract, framed, walk_of, proved, leaves, copied, copied_laws, tells, spent, drops, drops_go, toks}
use Rattle.starlark_columns.specs.Loan.{cells_follow}
use Rattle.starlark_columns.specs.contracts.loan.Loan as loan
use Rattle.starlark_columns.specs.contracts.column.Column.{the_row as column_row}
use Rattle.starlark_columns.proofs.loan.Loan.TheLaws as loan_laws
use Rattle.starlark_columns.proofs.bytes.Bytes.TheLaws as bytes_laws
use Rattle.starlark_columns.proofs.LentParts.{as_tuple}
use Rattle.starlark_columns.proofs.ProofSteps.{good_value, shr_laws}
use Rattle.starlark_table.specs.contracts.kept_hash.Kept.{the_row as kept_row}
use Rattle.starlark_table.proofs.kept_hash.Kept.TheLaws as kept_laws
use Rattle.starlark_table.specs.Lend.{Member, Tags, tags_stay}
use Rattle.starlark_table.specs.contracts.ready_table.iter_mut.lend_members as m
use Rattle.starlark_table.specs.contracts.ready_table.iter_mut.shown as h
use Rattle.starlark_table.proofs.ready_table.iter_mut.lend_members.Met as members
use Rattle.starlark_table.proofs.ready_table.iter_mut.shown.Met as shown
use Rattle.starlark_table.specs.contracts.ready_table.iter_mut.lend_fields as contract
use Rattle.starlark_table.proofs.ready_table.iter_mut.lend_fields as routine

pub lend_fields_spec : {M : Type 1} → routine.Statement.statement M
lend_fields_spec 𝓤 𝓛 𝓜 𝓡 wired T H P LT LH LP CH B dB N dN G dG is_hash is_clone is_kept =
    let 𝓣 = tables 𝓤 𝓛.H 𝓜 𝓡 𝓡.env in let En = contract.ended T H P B dB N dN G dG in
    let inst = bounded (a_type ∷ a_type ∷ a_type ∷ []) (T, (H, (P, tt))) (dcons dB (dcons dN (dcons dG dnil))) in let fn = inst_fn inst routine.Code.function in
    let c = contract.clauses T H P B dB N dN G dG 𝓛 𝓜.mem 𝓡.returns in let K : RattleType = param 0 T in let H' : RattleType = copied 1 H in let Slots : RattleType = column_row (Member K H' B) in
    let Members : Contract 𝓤 = triple_of 𝓛 (m.signature T H P B dB N dN G dG) (m.spec T H P B dB N dN G dG 𝓛 𝓜.mem 𝓡.returns) in let Shown : Contract 𝓤 = triple_of 𝓛 h.signature (h.spec 𝓛 𝓜.mem 𝓡.returns) in
    let gm = members.met 𝓤 𝓛 𝓜 𝓡 (routine.Code.calls-starlark_table::ready_table::iter_mut::lend_members 𝓡.env wired) T H P LT LH LP CH B dB N dN G dG is_hash is_clone is_kept in
    let gs = shown.met 𝓤 𝓛 𝓜 𝓡 (routine.Code.calls-starlark_table::ready_table::iter_mut::shown 𝓡.env wired) in let hs = drops En in
    proved 𝓛 En hs c 𝓜 𝓡 (drops_go 𝓛 En ((λ κs x f. refl), ((λ κs x f. refl), tt))) (contract.Key.name inst) fn (routine.Code.unfolded 𝓤 𝓛.H 𝓜 𝓡 wired (T, (H, (P, tt))) dB dN dG)
    (λ κs. (mut_vals, (mut_vals, tt))) (λ κs. (mut_Tells (named 0) κs.0 Slots, (mut_Tells (named 0) κs.0 Tags, tt))) (λ κs qs bounds a gh are.
    let κ : Lft = κs.0 in let q : Share = qs.0 in let r : MutBor Slots.Denot = a.0 in let s : MutBor (List ℕ) = a.1.0 in
    let It : RattleType = loan.the_row (named_lft 4 0 tt κs) (Member K H' B) (param 2 P) G in let Ref : RattleType = ShrRef (named 0) κ Tags in let Pair : RattleType = Tuple (It ∷ Ref ∷ []) in
    let it_laws = loan_laws.the_row_laws (named_lft 4 0 tt κs) (Member K H' B) (param 2 P) G (tuple_laws (kept_row H' B ∷ K ∷ []) (kept_laws.the_row_laws H' B (copied_laws 1 H LH), (param_laws 0 T LT, tt))) (param_laws 2 P LP) in
    let ref_laws = shr_laws κ Tags bytes_laws.the_row_laws in
    let y : (walk_of 𝓛 En hs c).Ghost = ((κs, qs, bounds, a, (mut_vals r, (mut_vals s, tt))), gh) in let others : SProp 𝓤 = toks 𝓛 3 κs.1 qs.1 in
    qed 𝓛 (((‵ (flft κ q) ⊛ raw others) ⊛ ‵ (owns (types_at En.signature.params κs) a y.0.4)) ∷ raw (fact 𝓤 (κs.1.0 ⊑ T.lives)) ∷ raw (fact 𝓤 (κs.1.1.0 ⊑ H.lives)) ∷ raw (fact 𝓤 (κs.1.1.1.0 ⊑ P.lives)) ∷ ‵ ftrue ∷ []) ∵
    move ! (1 ∷ 2 ∷ 3 ∷ []) $ heard ! _ (λ lT. heard ! _ (λ lH. heard ! _ (λ lP. split ! $ split ! $ move ! (2 ∷ []) $ fsplit3 ! $ keep ! (3 ∷ 4 ∷ 0 ∷ 1 ∷ []) $
    -- [the token of κ; the others; the slots; the tags]
    enter ! _ _ _ _ _ $ alloc_all ! (λ l. pass_all ! refl ((tt, tt), ((tt, tt), tt)) $ sets ! (addr ! (through ! refl (stop !))) refl (tt, tt) $
    let z : Members.Ghost = ((κs, qs, bounds, (r, tt), (mut_vals r, tt)), tt) in
    nothing ! $ move ! (3 ∷ 0 ∷ []) $ fjoin ! $ move ! (1 ∷ 2 ∷ 0 ∷ []) $ join ! $ join ! $ nothing ! $ tells ! _ lP $ tells ! _ lH $ tells ! _ lT $ group ! 4 $ move ! (1 ∷ 0 ∷ []) $ join ! $
    use1 𝓛 (raw (Members.pre z)) (id⊢ 𝓤 _) $ calls_at ! (framed 𝓤 𝓛.H 𝓜 𝓣) Members gm z (and_then ! (get ! refl) (no_more !)) (λ u.
    use1 𝓛 (later (some (λ (x : It.Denot). ((‵ (flft κ q) ⊛ raw others) ⊛ ‵ (It.own_val x (u ∷ []))) ⊛ raw (ensured 𝓛 (m.ended T H P B dB N dN G dG) (m.clauses T H P B dB N dN G dG 𝓛 𝓜.mem 𝓡.returns) z.0.0 z.0.3 tt x)))) (id⊢ 𝓤 _) $ await ! tt $ pick ! (λ x. split ! $ move ! (1 ∷ []) $
    use1 𝓛 (‵ (cells_follow (Member K H' B) G.kept r x.tie) ⊛ raw (fact 𝓤 (x.from ≡ 0)) ⊛ raw (fact 𝓤 (x.rest ≡ r.now))) (ex_e 𝓤 _ (λ ws. snd∗ 𝓤 (sem 𝓛 (lasts (m.ended T H P B dB N dN G dG) z.0.0 z.0.3 ws)) _)) $ split3 ! $
    move ! (1 ∷ 2 ∷ []) $ heard ! _ (λ at_0. heard ! _ (λ all. move ! (1 ∷ []) $ split ! $ split ! $ move ! (2 ∷ []) $
    -- [the loan; the token of κ; the others; what the slots follow; the tags]
    peeks ! It _ (shows 𝓛 It) x (u ∷ []) (λ is_x. let u_good = good_value 𝓛 It it_laws x u is_x in lands_as ! refl refl u_good $ sets ! (addr ! (through ! refl (stop !))) refl (tt, tt) $
    let z2 : Shown.Ghost = (((κ, tt), (q, tt), tt, (s, tt), (mut_vals s, tt)), tt) in
    nothing ! $ move ! (5 ∷ 0 ∷ []) $ fjoin ! $ nothing ! $ move ! (3 ∷ 0 ∷ []) $ join ! $ join ! $ nothing ! $ move ! (1 ∷ 0 ∷ []) $ join ! $
    use1 𝓛 (raw (Shown.pre z2)) (id⊢ 𝓤 _) $ calls_at ! (framed 𝓤 𝓛.H 𝓜 𝓣) Shown gs z2 (and_then ! (get ! refl) (no_more !)) (λ t.
    use1 𝓛 (later (some (λ (i : Bor (List ℕ)). ((‵ (flft κ q) ⊛ ‵ ftrue) ⊛ ‵ (Ref.own_val i (t ∷ []))) ⊛ raw (ensured 𝓛 h.ended (h.clauses 𝓛 𝓜.mem 𝓡.returns) z2.0.0 z2.0.3 tt i)))) (id⊢ 𝓤 _) $ await ! tt $ pick ! (λ i. split ! $ move ! (1 ∷ []) $
    use1 𝓛 (‵ (tags_stay s) ⊛ raw (fact 𝓤 (i.now ≡ s.now))) (ex_e 𝓤 _ (λ ws. snd∗ 𝓤 (sem 𝓛 (lasts h.ended z2.0.0 z2.0.3 ws)) _)) $ split ! $
    move ! (1 ∷ []) $ heard ! _ (λ seen. move ! (1 ∷ []) $ split ! $ split ! $ move ! (2 ∷ []) $
    -- [the shown tags; the token of κ; nothing; what they end as; the loan; the others; what the slots follow]
    peeks ! Ref _ (shows 𝓛 Ref) i (t ∷ []) (λ is_t. lands_as ! refl refl (good_value 𝓛 Ref ref_laws i t is_t) $
    let made : Val = vstruct (vcons u (vcons t vnil)) in move ! (4 ∷ 0 ∷ []) $ use2 𝓛 (‵ (Pair.own_val (x, i) (made ∷ []))) (as_tuple 𝓛 It Ref x i u t) $
    peeks ! Pair _ (shows 𝓛 Pair) (x, i) (made ∷ []) (λ is.
    sets ! (agg ! (and_then ! (get ! refl) (and_then ! (get ! refl) (no_more !)))) refl (good_value 𝓛 Pair (tuple_laws (It ∷ Ref ∷ []) (it_laws, (ref_laws, tt))) (x, i) made is) $
    returns ! (look_at ! 0 refl) $ free_all ! refl $
    -- [the pair; the token of κ; nothing; what the tags end as; the others; what the slots follow]
    tells ! (i.now ≡ s.now) seen $ tells ! (x.rest ≡ r.now) all $ tells ! (x.from ≡ 0) at_0 $ keep ! (8 ∷ 6 ∷ 0 ∷ 1 ∷ 2 ∷ 3 ∷ 4 ∷ 7 ∷ []) $ group ! 5 $
    move ! (2 ∷ 3 ∷ []) $ join ! $ spent ! 2 $ move ! (1 ∷ 0 ∷ 3 ∷ 2 ∷ []) $ by ! (leaves 𝓛 En hs c y made (x, i) (tt, (tt, tt)) (tt, (tt, tt))))))))))))))))))
