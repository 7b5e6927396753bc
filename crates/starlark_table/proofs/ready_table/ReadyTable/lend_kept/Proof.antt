-- `lend_kept` lends the slots and the tags. The whole table is open during the call, and is closed by what the two end as.
-- Assumes `Logic`.
use Rattle.starlark_columns.proofs.LogicNames.{◌≡◌, refl, sym, ap, subst, ◌∙◌, ℕ, ◌+◌, ◌-◌, List, [], ◌∷◌, length, full_share, a_type, dcons, dnil, named, named_lft, inst_fn, Val, SProp, id⊢, ex_e, snd∗, GName, Lft, Share, fsep, fauth, flft, flent, Body, deep, sem, open_ref, name_new, ages, bor_new_deep, ◌⊑◌, fact, tables, ‵, raw, ◌⊛◌, some, later, ◌$◌, ◌∵◌, !, qed, by, move, keep, drop, use1, use2, use3, split, split3, join, pick, fsplit, fsplit3, fjoin, fjoin3, fpack, feq_i, group, await, stop, fld, addr, and_then, no_more, returns, enter, alloc_all, pass_all, free_all, look_at, get, through, sets, lands_as, follows, shows, mem, part_at, param, bounded, param_laws, RattleType, owns, MutBor, ShrRef, mut_vals, mut_Tells, types_at, nothing, heard, peeks, Tuple, tuple_laws, calls_at, ensured, lasts, triple_of, Contract, framed, walk_of, proved, leaves, copied, copied_laws, Option, tells, spent, drops, drops_go, toks}
use base.Share
use Rattle.starlark_columns.specs.Loan.{kept_cells}
use Rattle.starlark_columns.specs.contracts.loan.Loan as loan
use Rattle.starlark_columns.proofs.loan.Loan.TheLaws as loan_laws
use Rattle.starlark_columns.proofs.bytes.Bytes.TheLaws as bytes_laws
use Rattle.starlark_columns.proofs.NamedLoan.{closes_named}
use Rattle.starlark_columns.proofs.ProofSteps.{good_value, shr_laws}
use Rattle.starlark_table.specs.contracts.kept_hash.Kept.{the_row as kept_row}
use Rattle.starlark_table.proofs.kept_hash.Kept.TheLaws as kept_laws
use Rattle.starlark_table.specs.Layout.{IsTagged}
use Rattle.starlark_table.specs.Growth.{limit}
use Rattle.starlark_table.specs.Lend.{Member, Tags, tags_stay, with_kept}
use Rattle.starlark_table.proofs.TwoPartLoan.{Beside, lent_beside}
use Rattle.starlark_table.proofs.Shape.{reshaped}
use Rattle.starlark_table.proofs.TableFields as O
use Rattle.starlark_table.proofs.WrittenSlots.{again-kept_cells, length-kept_cells, shape-kept_cells}
use Rattle.starlark_table.specs.contracts.ready_table.iter_mut.lend_fields as g
use Rattle.starlark_table.proofs.ready_table.iter_mut.lend_fields.Met as lend
use Rattle.starlark_table.specs.contracts.ready_table.ReadyTable.lend_kept as contract
use Rattle.starlark_table.proofs.ready_table.ReadyTable.lend_kept as routine

pub lend_kept_spec : {M : Type 1} → routine.Statement.statement M
lend_kept_spec 𝓤 𝓛 𝓜 𝓡 wired T H P LT LH LP CH B dB N dN G dG is_hash is_clone is_kept =
    let 𝓣 = tables 𝓤 𝓛.H 𝓜 𝓡 𝓡.env in let En = contract.ended T H P B dB N dN G dG in
    let inst = bounded (a_type ∷ a_type ∷ a_type ∷ []) (T, (H, (P, tt))) (dcons dB (dcons dN (dcons dG dnil))) in let fn = inst_fn inst routine.Code.function in
    let c = contract.clauses T H P B dB N dN G dG 𝓛 𝓜.mem 𝓡.returns in let K : RattleType = param 0 T in let H' : RattleType = copied 1 H in let LK = param_laws 0 T LT in let LH' = copied_laws 1 H LH in
    let W : RattleType = O.Whole K H' B in let SlotsColumn : RattleType = O.SlotsColumn K H' B in let D : Type 0 = O.Fields K H' B in let One : Type 0 = ℕ × T.Denot in let Slots : Type 0 = List (Option One) in
    let Lend : Contract 𝓤 = triple_of 𝓛 (g.signature T H P B dB N dN G dG) (g.spec T H P B dB N dN G dG 𝓛 𝓜.mem 𝓡.returns) in
    let met = lend.met 𝓤 𝓛 𝓜 𝓡 (routine.Code.calls-starlark_table::ready_table::iter_mut::lend_fields 𝓡.env wired) T H P LT LH LP CH B dB N dN G dG is_hash is_clone is_kept in
    let hs = drops En in
    proved 𝓛 En hs c 𝓜 𝓡 (drops_go 𝓛 En (λ κs x f. refl, tt)) (contract.Key.name inst) fn (routine.Code.unfolded 𝓤 𝓛.H 𝓜 𝓡 wired (T, (H, (P, tt))) dB dN dG)
    (λ κs. (mut_vals, tt)) (λ κs. (mut_Tells (named 0) κs.0 W, tt)) (λ κs qs bounds a gh are.
    let κ : Lft = κs.0 in let q : Share = qs.0 in let self : MutBor W.Denot = a.0 in let b : ℕ = self.ref_ptr.0 in let o : ℕ = self.ref_ptr.1 in let v : W.Denot = self.now in let γ : GName = self.ghost_name in
    let It : RattleType = loan.the_row (named_lft 4 0 tt κs) (Member K H' B) (param 2 P) G in let Pair : RattleType = Tuple (It ∷ ShrRef (named 0) κ Tags ∷ []) in
    let it_laws = loan_laws.the_row_laws (named_lft 4 0 tt κs) (Member K H' B) (param 2 P) G (tuple_laws (kept_row H' B ∷ K ∷ []) (kept_laws.the_row_laws H' B LH', (LK, tt))) (param_laws 2 P LP) in
    let y : (walk_of 𝓛 En hs c).Ghost = ((κs, qs, bounds, a, (mut_vals self, tt)), gh) in let others : SProp 𝓤 = toks 𝓛 3 κs.1 qs.1 in
    let Hash : Type 0 = (x w : One) → (G.kept x w).0 ≡ x.0 in let Again : Type 0 = (x w : One) → G.kept x (G.kept x w) ≡ G.kept x w in
    qed 𝓛 (((‵ (flft κ q) ⊛ raw others) ⊛ ‵ (owns (types_at En.signature.params κs) a y.0.4))
    ∷ raw (fact 𝓤 (κs.1.0 ⊑ T.lives)) ∷ raw (fact 𝓤 (κs.1.1.0 ⊑ H.lives)) ∷ raw (fact 𝓤 (κs.1.1.1.0 ⊑ P.lives)) ∷ raw (fact 𝓤 Hash) ∷ raw (fact 𝓤 Again) ∷ []) ∵
    move ! (1 ∷ 2 ∷ 3 ∷ 4 ∷ 5 ∷ []) $ heard ! _ (λ lT. heard ! _ (λ lH. heard ! _ (λ lP. heard ! Hash (λ hash. heard ! Again (λ again. split ! $ split ! $ move ! (2 ∷ []) $ fsplit ! $ keep ! (2 ∷ 3 ∷ 0 ∷ []) $
    -- [the token of κ; the others; self]
    enter ! _ _ _ _ _ $ alloc_all ! (λ l. pass_all ! refl ((tt, tt), tt) $
    sets ! (addr ! (through ! refl (fld ! refl (stop !)))) refl (tt, tt) $ sets ! (addr ! (through ! refl (fld ! refl (stop !)))) refl (tt, tt) $
    -- half of κ's token opens the table, and half goes into the call
    use1 𝓛 (‵ (flft κ (Share.left q)) ⊛ ‵ (flft κ (Share.right q))) (𝓛.lfts.lft_split κ q) $ split ! $ move ! (3 ∷ []) $ fsplit3 ! $ drop ! $ open_ref ! tt (mem W) {b = b} {o = o} $
    use1 𝓛 (some (λ (d : (d : D) × O.AreFieldsOf K H' B v d). raw (O.Parts K H' B 𝓛 b o v d))) (O.take_apart K H' B 𝓛 b o LK LH' v) $ pick ! (λ d'.
    let d = d'.0 in let xs = d.slots in let ys = d.tags in let pS = o + O.slots_offset K H' B in let pT = o + O.tags_offset K H' B in let Rest : SProp 𝓤 = O.Rest K H' B 𝓛 b o d in
    use1 𝓛 (‵ (part_at SlotsColumn full_share xs b pS) ⊛ ‵ (part_at Tags full_share ys b pT) ⊛ raw Rest) (id⊢ 𝓤 _) $ split3 ! $
    -- [the slots; the tags; the rest; the open borrow; obs; auth; the other half; the others]
    name_new ! tt (SlotsColumn.coded.code xs) (λ δ. move ! (2 ∷ 1 ∷ []) $ fjoin ! $ fpack ! SlotsColumn.Denot (λ z. fsep ((mem SlotsColumn).own_at z b pS) (fauth δ (SlotsColumn.coded.code z))) xs $
    name_new ! tt (Tags.coded.code ys) (λ δ₂. move ! (4 ∷ 1 ∷ []) $ fjoin ! $ fpack ! Tags.Denot (λ z. fsep ((mem Tags).own_at z b pT) (fauth δ₂ (Tags.coded.code z))) ys $
    move ! (5 ∷ []) $ ages ! (λ n. move ! (1 ∷ []) $ bor_new_deep ! tt n κ $ move ! (4 ∷ []) $ bor_new_deep ! tt n κ $
    -- [the first borrow and its right; the second and its; the open borrow; obs δ₂; obs δ; the rest; obs; auth; the other half; the others]
    let xr : MutBor Slots = record { ref_ptr = (b, pS); ghost_name = δ; now = xs } in let yr : MutBor (List ℕ) = record { ref_ptr = (b, pT); ghost_name = δ₂; now = ys } in
    move ! (6 ∷ 0 ∷ []) $ feq_i ! (List Val) (mut_vals xr) (mut_vals xr) refl $ fjoin3 ! $ move ! (5 ∷ 2 ∷ []) $ feq_i ! (List Val) (mut_vals yr) (mut_vals yr) refl $ fjoin3 ! $
    nothing ! $ move ! (1 ∷ 0 ∷ []) $ fjoin ! $ move ! (1 ∷ 0 ∷ []) $ fjoin ! $ move ! (7 ∷ 8 ∷ 0 ∷ []) $ join ! $ join ! $
    nothing ! $ tells ! _ lP $ tells ! _ lH $ tells ! _ lT $ group ! 4 $ move ! (1 ∷ 0 ∷ []) $ join ! $
    let z : Lend.Ghost = ((κs, (Share.right q, qs.1), (bounds.1.0, (bounds.0, tt)), (xr, (yr, tt)), (mut_vals xr, (mut_vals yr, tt))), tt) in
    use1 𝓛 (raw (Lend.pre z)) (id⊢ 𝓤 _) $ calls_at ! (framed 𝓤 𝓛.H 𝓜 𝓣) Lend met z (and_then ! (get ! refl) (and_then ! (get ! refl) (no_more !))) (λ u.
    use1 𝓛 (later (some (λ (x : Pair.Denot). ((‵ (flft κ (Share.right q)) ⊛ raw others) ⊛ ‵ (Pair.own_val x (u ∷ [])))
    ⊛ raw (ensured 𝓛 (g.ended T H P B dB N dN G dG) (g.clauses T H P B dB N dN G dG 𝓛 𝓜.mem 𝓡.returns) z.0.0 z.0.3 tt x)))) (id⊢ 𝓤 _) $ await ! tt $ pick ! (λ x. split ! $ move ! (1 ∷ []) $
    use1 𝓛 (‵ (follows SlotsColumn SlotsColumn δ x.0.tie (kept_cells G.kept xs)) ⊛ ‵ (tags_stay yr) ⊛ raw (fact 𝓤 (x.0.from ≡ 0)) ⊛ raw (fact 𝓤 (x.0.rest ≡ xs)) ⊛ raw (fact 𝓤 (x.1.now ≡ ys)))
    (ex_e 𝓤 _ (λ ws. snd∗ 𝓤 (sem 𝓛 (lasts (g.ended T H P B dB N dN G dG) z.0.0 z.0.3 ws)) _)) $ split3 ! $ move ! (2 ∷ []) $ split3 ! $ heard ! _ (λ at_0. heard ! _ (λ all. heard ! _ (λ seen_tags.
    -- [what the slots follow; what the tags end as; the tokens with the result; the two rights; the open borrow; the rest; obs; auth]
    move ! (3 ∷ 4 ∷ 1 ∷ []) $ use3 𝓛 (later (‵ (flent (deep n κ) (Body (Beside (mem SlotsColumn) Tags ys b pT) b pS δ)))) (lent_beside (mem SlotsColumn) Tags ys b pT 𝓛 (deep n κ) b pS δ δ₂) $ await ! tt $
    let written : Slots → D = λ w. record d { slots = kept_cells G.kept xs w } in let seen : Slots → W.Denot = λ w. record { slots = kept_cells G.kept xs w; room = limit (length (kept_cells G.kept xs w)) - d.len } in
    move ! (3 ∷ 5 ∷ 6 ∷ 0 ∷ 1 ∷ 4 ∷ []) $ group ! 6 $ use1 𝓛 (later (some (λ (tie : GName). ‵ (flft κ (Share.left q)) ⊛ ‵ (follows W W γ tie (with_kept G.kept v)))))
    (closes_named 𝓛 (mem W) (Beside (mem SlotsColumn) Tags ys b pT) (mem SlotsColumn) (kept_cells G.kept xs) seen (with_kept G.kept v)
    (λ w. ap (λ z. with_kept G.kept z (seen w)) (sym d'.1.0) ∙ (λ i. record { slots = again-kept_cells G.kept G.itself again xs w i; room = limit (sym (length-kept_cells G.kept xs w) i) - d.len }))
    κ (Share.left q) b o b pS γ δ x.0.tie Rest
    (λ w. O.put_together K H' B 𝓛 b o (seen w) (written w) (refl, reshaped xs (kept_cells G.kept xs w) (shape-kept_cells G.kept hash xs w) ys d.len d.far d'.1.1)) n (W.coded.code v) (W.coded.code v) v) $ await ! tt $ pick ! (λ tie. split ! $
    -- [half of κ's token; what self follows; the tokens with the result]
    move ! (2 ∷ []) $ split ! $ split ! $ move ! (3 ∷ 0 ∷ []) $ use2 𝓛 (‵ (flft κ q)) (𝓛.lfts.lft_join κ q) $ move ! (2 ∷ []) $
    -- [the loan and the tags; the token of κ; the others; what self follows]
    peeks ! Pair _ (shows 𝓛 Pair) x (u ∷ []) (λ is. lands_as ! refl refl (good_value 𝓛 Pair (tuple_laws (It ∷ ShrRef (named 0) κ Tags ∷ []) (it_laws, (shr_laws κ Tags bytes_laws.the_row_laws, tt))) x u is) $
    returns ! (look_at ! 0 refl) $ free_all ! refl $ let new : Pair.Denot = (record x.0 { tie = tie }, x.1) in use1 𝓛 (‵ (Pair.own_val new (u ∷ []))) (id⊢ 𝓤 _) $
    tells ! (IsTagged x.1.now v.slots) (subst (λ (l : Slots). IsTagged x.1.now l) (ap (λ (t : W.Denot). t.slots) d'.1.0) (subst (λ (t : List ℕ). IsTagged t xs) (sym seen_tags) d'.1.1.tagged)) $
    tells ! (x.0.rest ≡ v.slots) (all ∙ ap (λ (t : W.Denot). t.slots) d'.1.0) $ tells ! (x.0.from ≡ 0) at_0 $ move ! (6 ∷ 0 ∷ 1 ∷ 2 ∷ []) $ group ! 4 $
    move ! (2 ∷ 3 ∷ []) $ join ! $ spent ! 1 $ move ! (1 ∷ 0 ∷ 3 ∷ 2 ∷ []) $ by ! (leaves 𝓛 En hs c y u new (tt, tt) (tt, tt))))))))))))))))))))
