-- `lend_firsts` lends the first column. The borrow of the list stays open over the call, and is closed by what the
-- column ends as. Assumes `Logic`.
use Rattle.starlark_columns.proofs.LogicNames.{ !, Contract, Fml, GName, Lft, List, MutBor, Ptr, RattleType, SProp, Share, Val, [], a_type, addr, ages, alloc_all, and_then, ap, await, bor_new_deep, by, calls_at, drop, ensured, enter, ex_e, fact, fauth, feq_i, fjoin, fjoin3, fld, flft, follows, fpack, framed, free_all, fsep, fsplit, fsplit3, ftrue, full_share, get, group, heard, id⊢, in_a_block, inst_fn, items_of, join, keep, lands_as, lasts, later, layouts, leaves, length, load, look_at, mem, move, mut_Tells, mut_vals, name_new, named, named_lft, no_more, nothing, of_opd, only, open_ref, owned, owns, param, param_laws, part_at, pass_all, peeks, pick, proved, qed, raw, refl, returns, rewrite, sem, sets, shows, snd∗, some, split, stop, sym, tables, through, triple_of, tuple_laws, types_at, uint_Makes, use0, use1, use2, usize, vcons, vint, vnil, vptr, vstruct, w64, walk_of, zip, ‵, ℕ, ◌$◌, ◌+◌, ◌∙◌, ◌∵◌, ◌∷◌, ◌≡◌, ◌⊑◌, ◌⊛◌, tells, spent, drops, drops_go, look_in, sub, whole, mean}
use Rattle.starlark_vec2.proofs.ColumnNames.{At, Row, with_cells, words, words_good, spot_made, with_items, all_written, written_cells, column, Pair, with_seconds, frozen, with_values, pair_list, with_pairs, firsts_of}
use base.Share
use Rattle.starlark_columns.proofs.NamedLoan.{closes_named}
use Rattle.starlark_vec2.specs.contracts.loan.Loan as loan
use Rattle.starlark_vec2.proofs.loan.Loan as its
use Rattle.starlark_vec2.proofs.TwoColumns.{relaid, firsts_written, firsts_are}
use Rattle.starlark_vec2.proofs.Pairs.{with_values-zip}
use Rattle.starlark_vec2.proofs.Vec2Open as O
use Rattle.starlark_vec2.proofs.FrozenPairs.{length-with_seconds}
use Rattle.starlark_vec2.specs.contracts.vec2.get_mut.Vec2+tuple2+K+V+B.lend_firsts as contract
use Rattle.starlark_vec2.proofs.vec2.get_mut.Vec2+tuple2+K+V+B.lend_firsts as routine

pub lend_firsts_spec : {M : Type 1} → routine.Statement.statement M
lend_firsts_spec 𝓤 𝓛 𝓜 𝓡 wired X Y Z LX LY LZ =
    let H = 𝓛.H in let 𝓣 = tables 𝓤 H 𝓜 𝓡 𝓡.env in let En = contract.ended X Y Z in let hs = drops En in let inst = layouts (a_type ∷ a_type ∷ a_type ∷ []) (X, (Y, (Z, tt))) in let fn = inst_fn inst routine.Code.function in
    let c = contract.clauses X Y Z 𝓛 𝓜.mem 𝓡.returns in let K : RattleType = param 0 X in let V : RattleType = param 1 Y in let S : RattleType = param 2 Z in let P : RattleType = Pair K V in let W : RattleType = O.V P S in
    let CP = column P in let CS = column S in let LK = param_laws 0 X LX in let LV = param_laws 1 Y LY in let LP = tuple_laws (K ∷ V ∷ []) (LK, (LV, tt)) in let LS = param_laws 2 Z LZ in
    let Run : Contract 𝓤 = triple_of 𝓛 (loan.behind.signature X Y Z) (loan.behind.spec X Y Z 𝓛 𝓜.mem 𝓡.returns) in let met = its.behind.Met.met 𝓤 𝓛 𝓜 𝓡 (routine.Code.calls-starlark_vec2::loan::Loan::behind 𝓡.env wired) X Y Z LX LY LZ in
    proved 𝓛 En hs c 𝓜 𝓡 (drops_go 𝓛 En (λ κs x f. refl, tt)) (contract.Key.name inst) fn (routine.Code.unfolded 𝓤 H 𝓜 𝓡 wired (X, (Y, (Z, tt))))
    (λ κs. (mut_vals, tt)) (λ κs. (mut_Tells (named 0) κs.0 W, tt)) (λ κs qs bounds a gh are.
    let κ : Lft = κs.0 in let q : Share = qs.0 in let r : MutBor W.Denot = a.0 in let b : ℕ = r.ref_ptr.0 in let o : ℕ = r.ref_ptr.1 in let v : W.Denot = r.now in let γ : GName = r.ghost_name in
    let ℓ = named_lft 3 0 tt (κ, (κs.1.0, (κs.1.1.0, tt))) in let It : RattleType = loan.the_row ℓ K V in let lowers = its.TheLaws.lowers ℓ K V LK LV in
    let y : (walk_of 𝓛 En hs c).Ghost = ((κs, qs, bounds, a, (mut_vals r, tt)), gh) in let Post : Val → SProp 𝓤 = (walk_of 𝓛 En hs c).post y in
    let others : Fml = fsep (flft κs.1.0 qs.1.0) (fsep (flft κs.1.1.0 qs.1.1.0) (fsep (flft κs.1.1.1.0 qs.1.1.1.0) ftrue)) in
    qed 𝓛 (((‵ (flft κ q) ⊛ ‵ others) ⊛ ‵ (owns (types_at En.signature.params κs) a y.0.4)) ∷ raw (fact 𝓤 (κs.1.0 ⊑ X.lives)) ∷ raw (fact 𝓤 (κs.1.1.0 ⊑ Y.lives)) ∷ raw (fact 𝓤 (κs.1.1.1.0 ⊑ Z.lives)) ∷ ‵ ftrue ∷ []) ∵
    move ! (1 ∷ 2 ∷ 3 ∷ []) $ heard ! _ (λ la. heard ! _ (λ lb. heard ! _ (λ le. split ! $ split ! $ move ! (2 ∷ []) $ fsplit ! $ keep ! (2 ∷ 3 ∷ 0 ∷ []) $
    -- [the token of κ; the others; the list]
    enter ! 𝓣.C 𝓣.Λ fn (vptr b o ∷ []) Post $ alloc_all ! (λ l. pass_all ! refl ((tt, tt), tt) $
    use1 𝓛 (‵ (flft κ (Share.left q)) ⊛ ‵ (flft κ (Share.right q))) (𝓛.lfts.lft_split κ q) $ split ! $ move ! (3 ∷ []) $ fsplit3 ! $ drop ! $ open_ref ! tt (mem W) {b = b} {o = o} $
    use1 𝓛 (some (O.Held P S LP LS 𝓛 b o v)) (O.held P S LP LS 𝓛 b o v) $ pick ! (λ f. split ! $
    let d = f.0 in let known = f.2 in let told = f.3 in let xs = d.firsts in let oA = o + O.firsts_offset P S in let at = d.spot in let index : Val = words at.address.at at.count in
    -- the spot and the length are read from memory
    sets ! (of_opd ! (load ! (through ! refl (fld ! refl (stop !))) (look_in ! 0 (sub ! 3 refl (whole !))))) refl (words_good at.address.at at.count told.1) $
    sets ! (of_opd ! (load ! (through ! refl (fld ! refl (stop !))) (look_in ! 0 (sub ! 2 refl (whole !))))) refl (tt, record { fits = told.0 }) $ sets ! (addr ! (through ! refl (fld ! refl (stop !)))) refl (tt, tt) $
    let Left : SProp 𝓤 = mean 𝓛 (‵ (part_at CS full_share d.seconds b (o + O.seconds_offset P S)) ⊛ O.Rest P S LP LS 𝓛 b o d) in
    use2 𝓛 (‵ (part_at CP full_share xs b oA) ⊛ raw Left) (O.cut P S LP LS 𝓛 b o d (O.fields_value P S d f.1)) $ split ! $
    -- [the first column; the rest; the open borrow; obs; auth; half of κ's token; the others]
    name_new ! tt (CP.coded.code xs) (λ δ. move ! (2 ∷ 1 ∷ []) $ fjoin ! $ fpack ! CP.Denot (λ z. fsep ((mem CP).own_at z b oA) (fauth δ (CP.coded.code z))) xs $
    -- [the content; obs δ; the rest; the open borrow; obs; auth; ..]
    move ! (3 ∷ []) $ ages ! (λ n. move ! (1 ∷ []) $ bor_new_deep ! tt n κ $
    -- [the borrow and its right; the open borrow; obs δ; the rest; obs; auth; the other half; the others]
    let lent : MutBor CP.Denot = record { ref_ptr = (b, oA); ghost_name = δ; now = xs } in
    move ! (3 ∷ 0 ∷ []) $ feq_i ! (List Val) (mut_vals lent) (mut_vals lent) refl $ fjoin3 ! $ nothing ! $ owned ! usize _ (uint_Makes 𝓛 w64) d.len _ (refl, told.0) $ fjoin ! $ use0 𝓛 (‵ ((At S).own_val at (index ∷ []))) (spot_made S 𝓛 at told.1) $ fjoin ! $ move ! (1 ∷ 0 ∷ []) $ fjoin ! $
    -- [the argument; the right; the open borrow; the rest; obs; auth; the other half; the others]
    move ! (6 ∷ 7 ∷ 0 ∷ []) $ join ! $ join ! $ tells ! _ known.1.0.firsts_front $ tells ! _ (O.at_behind P S v d known told) $ tells ! _ le $ tells ! _ lb $ tells ! _ la $ group ! 5 $ move ! (1 ∷ 0 ∷ []) $ join ! $
    let z : Run.Ghost = ((κs, (Share.right q, qs.1), (bounds.0, (bounds.1.0, tt)), (lent, (at, (d.len, tt))), (mut_vals lent, (index ∷ [], (vint w64 d.len ∷ [], tt)))), tt) in
    use1 𝓛 (raw (Run.pre z)) (id⊢ 𝓤 _) $ calls_at ! (framed 𝓤 H 𝓜 𝓣) Run met z (and_then ! (get ! refl) (and_then ! (get ! refl) (and_then ! (get ! refl) (no_more !)))) (λ u.
    use1 𝓛 (later (some (λ (x : It.Denot). ((‵ (flft κ (Share.right q)) ⊛ ‵ others) ⊛ ‵ (It.own_val x (u ∷ []))) ⊛ raw (ensured 𝓛 (loan.behind.ended X Y Z) (loan.behind.clauses X Y Z 𝓛 𝓜.mem 𝓡.returns) z.0.0 z.0.3 tt x)))) (id⊢ 𝓤 _) $ await ! tt $ pick ! (λ x. split ! $ move ! (1 ∷ []) $
    let All : Type 0 = (x.from ≡ 0) × (x.rest ≡ items_of xs.cells) in
    let us = items_of xs.cells in let bs = items_of d.seconds.cells in let values : Row P.Denot → List P.Denot = λ w. with_seconds us (items_of w.cells) in
    let kept : Row P.Denot → Row P.Denot = λ w. with_cells xs (with_items xs.cells (values w)) in let keeps : W.Denot → W.Denot = λ w. with_pairs v (with_values v.pairs w.pairs) in
    -- the list with the values of w
    let seen : Row P.Denot → W.Denot = λ w. pair_list (zip (values w) bs) (length xs.cells) in
    let same : (w : Row P.Denot) → keeps (seen w) ≡ seen w = λ w. ap (λ (z : W.Denot). with_pairs z (with_values z.pairs (zip (values w) bs))) (sym known.0) ∙ ap (λ l. pair_list l (length xs.cells)) (with_values-zip us (items_of w.cells) bs) in
    let written : (w : Row P.Denot) → O.Known P S (seen w) (record d { firsts = kept w }) = λ w. let front = known.1.0.firsts_front in let long = written_cells xs.cells d.len front (values w) in
    ((λ j. pair_list (zip (all_written xs.cells d.len front (values w) (length-with_seconds us (items_of w.cells)) j) bs) (long j)), relaid d known.1 _ _ (firsts_written xs.cells d.seconds.cells d.len known.1.0 (values w)) long refl) in
    use1 𝓛 (‵ (follows CP CP δ x.tie kept) ⊛ raw (fact 𝓤 All)) (ex_e 𝓤 _ (λ ws. snd∗ 𝓤 (sem 𝓛 (lasts (loan.behind.ended X Y Z) z.0.0 z.0.3 ws)) _)) $ split ! $ move ! (1 ∷ []) $ heard ! _ (λ all.
    -- [what the column follows; the tokens with the loan; the right; the open borrow; the rest; obs; auth]
    move ! (3 ∷ 5 ∷ 6 ∷ 2 ∷ 0 ∷ 4 ∷ []) $ group ! 6 $ use1 𝓛 (later (some (λ (tie : GName). ‵ (flft κ (Share.left q)) ⊛ ‵ (follows W W γ tie keeps))))
    (closes_named 𝓛 (mem W) (mem CP) (mem CP) kept seen keeps same κ (Share.left q) b o b oA γ δ x.tie Left
    (λ w. O.shut P S LP LS 𝓛 b o (seen w) (record d { firsts = kept w }) (written w)) n (W.coded.code v) (W.coded.code v) v) $ await ! tt $ pick ! (λ tie. split ! $
    -- [half of κ's token; what the list follows; the tokens with the loan]
    move ! (2 ∷ []) $ split ! $ split ! $ move ! (3 ∷ 0 ∷ []) $ use2 𝓛 (‵ (flft κ q)) (𝓛.lfts.lft_join κ q) $ move ! (2 ∷ []) $
    -- [the loan; the token of κ; the others; what the list follows]
    peeks ! It _ (shows 𝓛 It) x (u ∷ []) (λ shown. fsplit ! $ move ! (1 ∷ []) $ in_a_block ! x.start (λ p. frozen κ K V p x.from x.name x.rest) (id⊢ 𝓤 _) (λ bx ox e.
    let made : Val = vstruct (vcons (vptr bx ox) (vcons (vstruct vnil) vnil)) in let word : u ≡ made = ap only (lowers.val_is x (u ∷ []) shown ∙ ap (λ (p : Ptr). lowers.lowered (record x { start = p }) ∷ []) e) in
    rewrite ! 0 (λ (p : Ptr). ‵ (frozen κ K V p x.from x.name x.rest)) (sym e) refl $ move ! (1 ∷ 0 ∷ []) $ fjoin ! $
    rewrite ! 0 (λ (w : Val). ‵ (It.own_val x (w ∷ []))) word refl $ lands_as ! word refl (tt, (tt, (tt, tt))) $ returns ! (look_at ! 0 refl) $ free_all ! refl $
    let new : It.Denot = record x { tie = tie } in move ! (1 ∷ 2 ∷ []) $ join ! $ spent ! 1 $
    tells ! (new.rest ≡ firsts_of v.pairs) (firsts_are xs.cells d.seconds.cells d.len known.1.0 v known.0 x.rest all.1) $ tells ! (new.from ≡ 0) all.0 $ join ! $ move ! (4 ∷ 0 ∷ []) $ join ! $
    move ! (2 ∷ 1 ∷ 3 ∷ 0 ∷ []) $ by ! (leaves 𝓛 En hs c y made new (tt, tt) (tt, tt))))))))))))))))
