-- `new` lends the second parts of a column's pairs, whose first parts do not change. The borrow of the column stays
-- open while it is lent to the call that shows its items. Assumes `Logic`.
use Rattle.starlark_columns.proofs.LogicNames.{ !, Array, Contract, Fml, GName, Lft, List, MutBor, MutSlice, RattleType, Room, SProp, Share, Struct, Val, [], a_type, addr, ages, agg, alloc_all, and_then, ap, await, block_ptr, bor_new_deep, by, calls_at, drop, emp, ensured, enter, ex_e, fact, fauth, feq_i, feq_l, fjoin, fjoin3, fld, flft, follows, follows_then, fpack, framed, free_all, from, fsep, fsplit, fsplit3, fst∗, ftrue, get, group, heard, hop, id⊢, inst_fn, items_of, join, keep, lands_as, lasts, later, layouts, leaves, length, look_at, look_in_at, makes_shadow, mem, move, mut_Tells, mut_vals, name_new, named, named_lft, no_more, nothing, only, open_ref, owned, owns, param, pass_all, pick, proved, pure_i, pure_l, qed, raw, refl, returns, rewrite, room, sem, sets, shape, snd∗, some, split, split3, stop, sub, subst, sym, tables, through, triple_of, types_at, uint_Makes, uint_Tells, uint_vals, use0, use1, use2, usize, vcons, vint, vnil, vptr, vstruct, w64, walk_of, whole, zero-add, zero-mul, ‵, ℕ, ◌$◌, ◌*◌, ◌+◌, ◌<◌, ◌^◌, ◌∙◌, ◌∵◌, ◌∷◌, ◌≡◌, ◌⊑◌, ◌⊛◌, tells, spent, drops, drops_go, heres_id, Arr, cells, coded_list, fobs, fbor, Body, takes_part, done}
use Rattle.starlark_vec2.proofs.ColumnNames.{Row, with_cells, word, word_good, address_made, address_told, IsFront, with_items, column, Pair, KeptRun, with_seconds, lent_run}
use base.Share
use Rattle.starlark_columns.specs.contracts.block.Address as address
use Rattle.starlark_columns.specs.declared.block.Address.{Address}
use Rattle.starlark_columns.proofs.NamedLoan.{closes_named}
use Rattle.starlark_vec2.proofs.FrozenPairs.{with_itself, length-with_seconds, kept_items}
use Rattle.starlark_vec2.specs.contracts.loan as loan
use Rattle.starlark_vec2.proofs.loan.run_mut.Met as run
use Rattle.starlark_vec2.specs.contracts.loan.Loan.new as contract
use Rattle.starlark_vec2.proofs.loan.Loan.new as routine

pub new_spec : {M : Type 1} → routine.Statement.statement M
new_spec 𝓤 𝓛 𝓜 𝓡 wired X Y LX LY =
    let H = 𝓛.H in let 𝓣 = tables 𝓤 H 𝓜 𝓡 𝓡.env in let En = contract.ended X Y in let hs = drops En in let inst = layouts (a_type ∷ a_type ∷ []) (X, (Y, tt)) in let fn = inst_fn inst routine.Code.function in
    let c = contract.clauses X Y 𝓛 𝓜.mem 𝓡.returns in let K : RattleType = param 0 X in let V : RattleType = param 1 Y in let P : RattleType = Pair K V in let W : RattleType = column P in let At : RattleType = address.the_row P in let One : Type 0 = X.Denot × Y.Denot in
    let Run : Contract 𝓤 = triple_of 𝓛 (loan.run_mut.signature X Y) (loan.run_mut.spec X Y 𝓛 𝓜.mem 𝓡.returns) in let met = run.met 𝓤 𝓛 𝓜 𝓡 (routine.Code.calls-starlark_vec2::loan::run_mut 𝓡.env wired) X Y LX LY in
    proved 𝓛 En hs c 𝓜 𝓡 (drops_go 𝓛 En (λ κs x f. refl, (λ κs x f. refl, (λ κs x f. refl, tt)))) (contract.Key.name inst) fn (routine.Code.unfolded 𝓤 H 𝓜 𝓡 wired (X, (Y, tt)))
    (λ κs. (mut_vals, ((λ x. word x.at ∷ []), (uint_vals w64, tt)))) (λ κs. (mut_Tells (named 0) κs.0 W, (address_told P, (uint_Tells w64, tt)))) (λ κs qs bounds a gh are.
    let κ : Lft = κs.0 in let q : Share = qs.0 in let self : MutBor (Row One) = a.0 in let b : ℕ = self.ref_ptr.0 in let o : ℕ = self.ref_ptr.1 in let v = self.now in let γ : GName = self.ghost_name in
    let index : Address One = a.1.0 in let len : ℕ = a.1.1.0 in let fits : len < 2 ^ 64 = are.1.1.0.1 in
    let y : (walk_of 𝓛 En hs c).Ghost = ((κs, qs, bounds, a, (mut_vals self, (word index.at ∷ [], (vint w64 len ∷ [], tt)))), gh) in let Post : Val → SProp 𝓤 = (walk_of 𝓛 En hs c).post y in
    let others : Fml = fsep (flft κs.1.0 qs.1.0) (fsep (flft κs.1.1.0 qs.1.1.0) ftrue) in
    qed 𝓛 (((‵ (flft κ q) ⊛ ‵ others) ⊛ ‵ (owns (types_at En.signature.params κs) a y.0.4)) ∷ raw (fact 𝓤 (κs.1.0 ⊑ X.lives)) ∷ raw (fact 𝓤 (κs.1.1.0 ⊑ Y.lives)) ∷ raw (fact 𝓤 (index.at ≡ v.at)) ∷ raw (fact 𝓤 (IsFront v.cells len)) ∷ []) ∵
    move ! (1 ∷ 2 ∷ 3 ∷ 4 ∷ []) $ heard ! _ (λ la. heard ! _ (λ lb. heard ! _ (λ at. heard ! _ (λ front. split ! $ split ! $ move ! (2 ∷ []) $ fsplit ! $ keep ! (2 ∷ 3 ∷ 0 ∷ []) $
    -- [the token of κ; the others; the column]
    enter ! 𝓣.C 𝓣.Λ fn (vptr b o ∷ word index.at ∷ vint w64 len ∷ []) Post $ alloc_all ! (λ l. pass_all ! refl ((tt, tt), (word_good index.at, ((tt, record { fits = fits }), tt))) $
    sets ! (addr ! (through ! refl (stop !))) refl (tt, tt) $
    use1 𝓛 (‵ (flft κ (Share.left q)) ⊛ ‵ (flft κ (Share.right q))) (𝓛.lfts.lft_split κ q) $ split ! $ move ! (3 ∷ []) $ fsplit3 ! $ drop ! $ open_ref ! tt (mem W) {b = b} {o = o} $
    name_new ! tt (W.coded.code v) (λ δ. move ! (2 ∷ 1 ∷ []) $ fjoin ! $ fpack ! W.Denot (λ z. fsep ((mem W).own_at z b o) (fauth δ (W.coded.code z))) v $ move ! (2 ∷ []) $ ages ! (λ n. move ! (1 ∷ []) $ bor_new_deep ! tt n κ $
    -- [the borrow and its right; the open borrow; obs δ; obs; auth; the other half; the others]
    let lent : MutBor (Row One) = record { ref_ptr = (b, o); ghost_name = δ; now = v } in
    move ! (3 ∷ 0 ∷ []) $ feq_i ! (List Val) (mut_vals lent) (mut_vals lent) refl $ fjoin3 ! $ nothing ! $ owned ! usize _ (uint_Makes 𝓛 w64) len _ (refl, fits) $ fjoin ! $ use0 𝓛 (‵ (At.own_val index (word index.at ∷ []))) (address_made P 𝓛 index.at) $ fjoin ! $ move ! (1 ∷ 0 ∷ []) $ fjoin ! $
    move ! (5 ∷ 6 ∷ 0 ∷ []) $ join ! $ join ! $ tells ! _ front $ tells ! _ at $ tells ! _ lb $ tells ! _ la $ group ! 4 $ move ! (1 ∷ 0 ∷ []) $ join ! $
    let z : Run.Ghost = ((κs, (Share.right q, qs.1), bounds, (lent, (index, (len, tt))), (mut_vals lent, (word index.at ∷ [], (vint w64 len ∷ [], tt)))), tt) in
    use1 𝓛 (raw (Run.pre z)) (id⊢ 𝓤 _) $ calls_at ! (framed 𝓤 H 𝓜 𝓣) Run met z (and_then ! (get ! refl) (and_then ! (get ! refl) (and_then ! (get ! refl) (no_more !)))) (λ u.
    use1 𝓛 (later (some (λ (x : MutBor (List One)). ((‵ (flft κ (Share.right q)) ⊛ ‵ others) ⊛ ‵ ((MutSlice (named 0) κ P).own_val x (u ∷ []))) ⊛ raw (ensured 𝓛 (loan.run_mut.ended X Y) (loan.run_mut.clauses X Y 𝓛 𝓜.mem 𝓡.returns) z.0.0 z.0.3 tt x)))) (id⊢ 𝓤 _) $ await ! tt $ pick ! (λ x. split ! $ move ! (1 ∷ []) $
    let put : List One → Row One = λ ws. with_cells v (with_items v.cells ws) in let kept : List One → Row One = λ ws. put (with_seconds (items_of v.cells) ws) in let All : Type 0 = x.now ≡ items_of v.cells in
    use1 𝓛 (‵ (follows W (Array P 0) δ x.ghost_name put) ⊛ raw (fact 𝓤 All)) (ex_e 𝓤 _ (λ ws. snd∗ 𝓤 (sem 𝓛 (lasts (loan.run_mut.ended X Y) z.0.0 z.0.3 ws)) _)) $ split ! $ move ! (1 ∷ []) $ heard ! _ (λ items.
    move ! (1 ∷ []) $ split ! $ move ! (1 ∷ []) $ fsplit3 ! $ fsplit ! $ feq_l ! (λ at_x. pure_l ! (room P (length x.now)) (λ rm. lands_as ! (ap only at_x) refl (tt, (tt, (record { fits = rm.0 }, tt))) $
    -- [the slice's name and borrow; the tokens; what the column follows; the right; the open borrow; obs; auth]: the second
    -- parts alone are lent on
    let bx = x.ref_ptr.0 in let ox = x.ref_ptr.1 in let ps : List One = x.now in let γ' : GName = x.ghost_name in let code = (coded_list P.coded).code in
    move ! (2 ∷ []) $ split ! $ move ! (2 ∷ 3 ∷ 0 ∷ []) $ rewrite ! 0 (λ (l : List One). ‵ (fobs γ' (code l))) (heres_id P ps) refl $ open_ref ! tt (Arr (mem P) (length ps)) {b = bx} {o = ox} $ fsplit ! $ drop ! $
    rewrite ! 0 (λ (l : List One). ‵ (cells (mem P) l bx ox)) (sym (with_itself ps)) refl $ feq_i ! ℕ (length ps) (length ps) refl $ fjoin ! $ nothing ! $ move ! (2 ∷ 3 ∷ 4 ∷ 1 ∷ 0 ∷ []) $ group ! 5 $
    use1 𝓛 (later (some (λ (δ' : GName). ‵ (fobs δ' (code ps)) ⊛ ‵ (fbor κ (Body (KeptRun K V ps) bx ox δ')) ⊛ ‵ (flft κ (Share.right q)) ⊛ ‵ (follows (Array P 0) (Array P 0) γ' δ' (with_seconds ps)))))
    (takes_part 𝓛 (Arr (mem P) (length ps)) (KeptRun K V ps) (with_seconds ps) κ (Share.right q) bx ox bx ox γ' (emp 𝓤)
    (λ w. qed 𝓛 (‵ ((KeptRun K V ps).own_at w bx ox) ∷ raw (emp 𝓤) ∷ []) ∵ fsplit ! $ drop ! $ feq_i ! ℕ (length (with_seconds ps w)) (length ps) (length-with_seconds ps w) $ fjoin ! $ keep ! (0 ∷ []) $ done !)
    (code ps) (code ps) ps) $ await ! tt $ pick ! (λ δ'. split3 ! $ fjoin ! $ move ! (1 ∷ []) $ split ! $ move ! (2 ∷ 0 ∷ 1 ∷ []) $
    rewrite ! 0 (λ (t : List One). ‵ (lent_run K V κ bx ox δ' t)) items refl $ rewrite ! 2 (λ (t : List One). ‵ (follows (Array P 0) (Array P 0) x.ghost_name δ' (with_seconds t))) items refl $
    -- [the run; half of κ's token; what the slice follows; the others; what the column follows; the right; the open borrow;
    -- obs; auth]
    move ! (4 ∷ 2 ∷ []) $ use2 𝓛 (‵ (follows W (Array P 0) δ δ' kept)) (follows_then 𝓛 W (Array P 0) (Array P 0) put (with_seconds (items_of v.cells)) δ x.ghost_name δ') $
    nothing ! $ move ! (6 ∷ 7 ∷ 8 ∷ 5 ∷ 1 ∷ 0 ∷ []) $ group ! 6 $
    use1 𝓛 (later (some (λ (tie : GName). ‵ (flft κ (Share.left q)) ⊛ ‵ (follows W W γ tie (λ w. kept (items_of w.cells))))))
    (closes_named 𝓛 (mem W) (mem W) (mem (Array P 0)) kept kept (λ w. kept (items_of w.cells)) (λ w. ap (with_cells v) (kept_items v.cells len front w)) κ (Share.left q) b o b o γ δ δ' (emp 𝓤) (λ w. fst∗ 𝓤 (sem 𝓛 ((mem W).own_at (kept w) b o)) (emp 𝓤)) n (W.coded.code v) (W.coded.code v) v) $
    await ! tt $ pick ! (λ tie. split ! $
    -- [half of κ's token; what the column follows; the run; the other half; the others]
    move ! (0 ∷ 3 ∷ []) $ use2 𝓛 (‵ (flft κ q)) (𝓛.lfts.lft_join κ q) $ move ! (2 ∷ []) $
    let start : 0 * (mem P).size + ox ≡ ox = ap (λ (k : ℕ). k + ox) (zero-mul (mem P).size) ∙ zero-add ox in let made : Val = vstruct (vcons (vptr bx ox) (vcons (vstruct vnil) vnil)) in
    let It : RattleType = loan.Loan.the_row (named_lft 3 0 tt κs) K V in let Data : RattleType = Struct (shape (loan.Loan.the_type (named_lft 3 0 tt κs) K V)) in
    let new : It.Denot = record { start = block_ptr bx ox; mark = record {}; name = δ'; tie = tie; from = 0; rest = items_of v.cells } in
    rewrite ! 0 (λ (k : ℕ). ‵ (lent_run K V κ bx k δ' (items_of v.cells))) (sym start) refl $
    pure_i ! (room P (0 + length (items_of v.cells))) (tt, tt) (subst (λ (k : ℕ). Room P k) (ap length items ∙ sym (zero-add (length (items_of v.cells)))) rm) $ fjoin ! $
    use0 𝓛 (‵ (Data.own_val (block_ptr bx ox, (record {}, tt)) (made ∷ [])))
    (makes_shadow 𝓛 (Data.own_val (block_ptr bx ox, (record {}, tt)) (made ∷ [])) (λ vss. (tt, (tt, ((λ uss. (tt, tt)), tt)))) ((vptr bx ox ∷ [], (vstruct vnil ∷ [], tt)), (refl, (refl, ((tt, (refl, tt)), tt))))) $ fjoin ! $
    -- [the loan; the token of κ; what the column follows; the others]
    sets ! (addr ! (from ! (fld ! refl (hop ! (look_in_at ! 4 (sub ! 0 refl (whole !))) (stop !))))) refl (tt, tt) $
    sets ! (agg ! (no_more !)) refl (tt, tt) $ sets ! (agg ! (and_then ! (get ! refl) (and_then ! (get ! refl) (no_more !)))) refl (tt, (tt, (tt, tt))) $
    returns ! (look_at ! 0 refl) $ free_all ! refl $ move ! (1 ∷ 3 ∷ []) $ join ! $ tells ! ((new.from ≡ 0) × (new.rest ≡ items_of v.cells)) (refl, refl) $ move ! (3 ∷ 0 ∷ []) $ join ! $ spent ! 3 $
    move ! (2 ∷ 0 ∷ 3 ∷ 1 ∷ []) $ by ! (leaves 𝓛 En hs c y made new (tt, (tt, (tt, tt))) (tt, (tt, (tt, tt)))))))))))))))))))
