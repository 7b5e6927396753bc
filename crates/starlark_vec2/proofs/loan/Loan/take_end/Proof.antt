-- `take_end` takes the pair at either end of those that are left. Assumes `Logic`.
use Rattle.starlark_columns.proofs.LogicNames.{ !, Bor, Fml, GName, Goes-dropped, Goes-ref, Incl-trans, Lft, Lfts, List, MutBor, MutRef, Ptr, RattleType, Room, SProp, Share, ShrRef, Stays, Tuple, Val, [], a_type, addr, after, agg, alloc_all, and_then, ap, arith, at_ret, await, bin, blocks, by, cell_at, closes, enter, env, exec, fact, feq_i, first, fjoin, fjoin3, fld, flft, free_all, fsep, fsplit, fsplit3, ftrue, full_share, get, heard, id⊢, in_a_block, inst_fn, is, join, keep, later, layouts, leaves, length, load, look_at, look_in, mem, move, mut_Tells, mut_vals, named, named_lft, never, no_more, of_opd, opens, owns, param, param_laws, pass_all, peeks, pick, plain, proved, pure_i, pure_l, qed, raw, refl, returns, rewrite, room, sets, sets_last, shows, size_word, some, split, split3, stay_dropped, stay_ref, stop, sub, subst, sym, tables, through, times_below, types_at, uint_Tells, uint_vals, uncapped, use2, usize, vcons, vint, vnil, vptr, vstruct, w64, walk_of, whole, yes, ‵, ℕ, ◌$◌, ◌*◌, ◌+◌, ◌<◌, ◌^◌, ◌∙◌, ◌∵◌, ◌∷◌, ◌≡◌, ◌⊑◌, ◌⊛◌, Item, tells, spent}
use Rattle.starlark_vec2.proofs.ColumnNames.{Pair, frozen, IsEnd, TakesEnd}
use Rattle.starlark_columns.proofs.EntryParts.{Out, pair_out, part, first_at, second_at, as_tuple}
use Rattle.starlark_vec2.proofs.FrozenPairs.{Off, end_of, fewer_left, end_out}
use Rattle.starlark_vec2.specs.contracts.loan.Loan as contract
use Rattle.starlark_vec2.proofs.loan.Loan as routine

pub take_end_spec : {M : Type 1} → routine.take_end.Statement.statement M
take_end_spec 𝓤 𝓛 𝓜 𝓡 wired X Y LX LY =
    let H = 𝓛.H in let 𝓣 = tables 𝓤 H 𝓜 𝓡 𝓡.env in let En = contract.take_end.ended X Y in let inst = layouts (a_type ∷ a_type ∷ []) (X, (Y, tt)) in let fn = inst_fn inst routine.take_end.Code.function in
    let c = contract.take_end.clauses X Y 𝓛 𝓜.mem 𝓡.returns in let K : RattleType = param 0 X in let V : RattleType = param 1 Y in let P : RattleType = Pair K V in let s : ℕ = (mem P).size in let One : Type 0 = X.Denot × Y.Denot in
    let It : Lfts 4 → RattleType = λ κs. contract.the_row (named_lft 4 1 tt κs) K V in let LK = param_laws 0 X LX in let LV = param_laws 1 Y LY in
    let hs : Stays En.signature.params En.kept = (stay_ref (0 ∷ []) tt (plain It), (stay_dropped (plain (λ _. usize)) yes, tt)) in
    proved 𝓛 En hs c 𝓜 𝓡 (Goes-ref 𝓛 4 0 tt (plain It), (Goes-dropped 𝓛 4 (plain (λ _. usize)) yes (λ κs x f. refl), tt)) (contract.take_end.Key.name inst) fn (routine.take_end.Code.unfolded 𝓤 H 𝓜 𝓡 wired (X, (Y, tt)))
    (λ κs. (mut_vals, (uint_vals w64, tt))) (λ κs. (mut_Tells (named 0) κs.0 (It κs), (uint_Tells w64, tt))) (λ κs qs bounds a gh are.
    let κ : Lft = κs.0 in let q : Share = qs.0 in let ι : Lft = κs.1.0 in let r : Share = qs.1.0 in let R : RattleType = It κs in let i : ℕ = a.1.0 in let lowers = routine.TheLaws.lowers (named_lft 4 1 tt κs) K V LK LV in
    let self : MutBor R.Denot = a.0 in let γ : GName = self.ghost_name in let rb : ℕ = self.ref_ptr.0 in let ro : ℕ = self.ref_ptr.1 in let d : R.Denot = self.now in
    let y : (walk_of 𝓛 En hs c).Ghost = ((κs, qs, bounds, a, (vptr rb ro ∷ [], (vint w64 i ∷ [], tt))), gh) in let Post : Val → SProp 𝓤 = (walk_of 𝓛 En hs c).post y in
    let others : Fml = fsep (flft κs.1.1.0 qs.1.1.0) (fsep (flft κs.1.1.1.0 qs.1.1.1.0) ftrue) in let Asks : Type 0 = IsEnd d.from d.rest i in
    qed 𝓛 (((‵ (flft κ q) ⊛ ‵ (flft ι r) ⊛ ‵ others) ⊛ ‵ (owns (types_at En.signature.params κs) a y.0.4)) ∷ raw (fact 𝓤 (κs.1.1.0 ⊑ X.lives)) ∷ raw (fact 𝓤 (κs.1.1.1.0 ⊑ Y.lives)) ∷ raw (fact 𝓤 Asks) ∷ []) ∵
    move ! (1 ∷ 3 ∷ []) $ heard ! _ (λ la. heard ! _ (λ asked. split ! $ split3 ! $ move ! (3 ∷ []) $ fsplit ! $ fsplit3 ! $ keep ! (1 ∷ 2 ∷ 4 ∷ 5 ∷ 6 ∷ []) $
    -- [self's name and borrow; the tokens of κ, ι; the others]
    enter ! 𝓣.C 𝓣.Λ fn (vptr rb ro ∷ vint w64 i ∷ []) Post $ alloc_all ! (λ l. pass_all ! refl ((tt, tt), ((tt, record { fits = are.1.0.1 }), tt)) $ let Ev = env fn.locals l in
    opens ! tt R {h = d} rb ro (λ vs. move ! (1 ∷ []) $ peeks ! R _ (shows 𝓛 R) d vs (λ shown. fsplit ! $ move ! (1 ∷ 6 ∷ []) $
    in_a_block ! d.start (λ p. frozen ι K V p d.from d.name d.rest) (id⊢ 𝓤 (never 𝓤)) (λ b o at. fsplit ! $ pure_l ! (room P (d.from + length d.rest)) (λ rm.
    -- [the run; the token of ι; the fields; their cell, the open borrow and its names; the others]
    let word = lowers.val_is d vs shown ∙ ap (λ (p : Ptr). lowers.lowered (record d { start = p }) ∷ []) at in let Cell = λ (ws : List Val). ‵ (cell_at full_share R.mir ws rb ro) in
    let far : i * s < 2 ^ 64 = let h : i * s < 2 ^ 63 = times_below i (d.from + length d.rest) s (2 ^ 63) (omega (arith, asked)) rm.1 in omega arith in
    rewrite ! 3 Cell word refl $ first ! $ blocks ! $ sets ! (of_opd ! (load ! (through ! refl (fld ! refl (stop !))) (look_in ! 3 (sub ! 0 refl (whole !))))) refl (tt, tt) $
    sets ! (is ! (bin ! (get ! refl) (size_word !) (record { fits = subst (λ (k : ℕ). k < 2 ^ 64) (sym (uncapped i s far)) far })) (ap (vint w64) (uncapped i s far))) refl (tt, record { fits = far }) $
    sets ! (bin ! (get ! refl) (get ! refl) tt) refl (tt, tt) $ rewrite ! 3 Cell (sym word) refl $
    let cut = end_of d.from d.rest i asked in let x : One = cut.item in let ps : List One = cut.others in let begin : ℕ = i * s + o in let long = Incl-trans bounds.1.1.1.0 la in
    let fewer : Room P (cut.next + length ps) = let less = fewer_left d.from d.rest i cut in (let h = rm.0 in omega (arith, h, less), times_below (cut.next + length ps) (d.from + length d.rest) s (2 ^ 63) less rm.1) in
    use2 𝓛 (later (some (Off K V 𝓛 ι r b o d.name x ps begin (cut.next * s + o)))) (end_out K V 𝓛 ι r b o d.name d.from d.rest i cut) $ await ! tt $ pick ! (λ γs. split3 ! $
    -- [the pair; the run; the token of ι; the fields; their cell, the open borrow and its names; the others]
    let Pairs : GName → Item 𝓤 = Out (part K) (part V) LK LV 𝓛 ι r b begin γs.0 (named 1) long x in
    move ! (0 ∷ 2 ∷ []) $ use2 𝓛 (later (some Pairs)) (pair_out (part K) (part V) LK LV 𝓛 ι r b begin γs.0 (named 1) long x) $ await ! tt $ pick ! (λ δ. split3 ! $
    -- [the `&`; the `&mut`; the token of ι; the run; the fields; their cell, the open borrow and its names; the others]
    let k : Bor X.Denot = record { ref_ptr = (b, first_at (part K) (part V) begin); now = x.0 } in let v : MutBor Y.Denot = record { ref_ptr = (b, second_at (part K) (part V) begin); ghost_name = δ; now = x.1 } in
    let out : Val = vstruct (vcons (vptr b k.ref_ptr.1) (vcons (vptr b v.ref_ptr.1) vnil)) in
    move ! (3 ∷ []) $ pure_i ! (room P (cut.next + length ps)) (tt, tt) fewer $ fjoin ! $
    rewrite ! 0 (λ (z : Ptr). ‵ (frozen ι K V z cut.next γs.1 ps)) (sym at) refl $ move ! (4 ∷ 0 ∷ []) $ fjoin ! $ move ! (4 ∷ 0 ∷ 5 ∷ 6 ∷ 7 ∷ []) $
    let new : R.Denot = record { start = d.start; mark = d.mark; name = γs.1; tie = d.tie; from = cut.next; rest = ps } in
    closes ! tt R new vs rb ro $ sets ! (addr ! (through ! refl (fld ! refl (stop !)))) refl (tt, tt) $ sets ! (addr ! (through ! refl (fld ! refl (stop !)))) refl (tt, tt) $
    sets_last ! (agg ! (and_then ! (get ! refl) (and_then ! (get ! refl) (no_more !)))) refl (tt, (tt, (tt, tt))) $
    exec ! 𝓣.C 𝓣.Λ Ev (after 1 fn.body) (at_ret Ev Post) $ sets ! (of_opd ! (get ! refl)) refl (tt, (tt, (tt, tt))) $ returns ! (look_at ! 0 refl) $ free_all ! refl $
    -- [self's name and borrow; the token of κ; the `&`; the `&mut`; the token of ι; the others]
    feq_i ! (List Val) (vptr rb ro ∷ []) (vptr rb ro ∷ []) refl $ fjoin3 ! $ spent ! 1 $ move ! (1 ∷ 0 ∷ []) $ fjoin ! $ move ! (4 ∷ 5 ∷ []) $ join ! $ move ! (2 ∷ 0 ∷ []) $ join ! $ move ! (2 ∷ 3 ∷ []) $
    use2 𝓛 (‵ ((Tuple (ShrRef (named 1) ι K ∷ MutRef (named 1) ι V ∷ [])).own_val (k, v) (out ∷ []))) (as_tuple 𝓛 (ShrRef (named 1) ι K) (MutRef (named 1) ι V) k v (vptr b k.ref_ptr.1) (vptr b v.ref_ptr.1)) $
    -- [the references; the tokens; self]
    tells ! (TakesEnd d.from d.rest i x cut.next ps × (d.tie ≡ d.tie)) (cut.takes, refl) $ move ! (2 ∷ 3 ∷ 1 ∷ 0 ∷ []) $ by ! (leaves 𝓛 En hs c y out (k, v) (new, (tt, tt)) (tt, (tt, tt)))))))))))))
