-- `iter_mut` lends the values of the pairs in the columns. The borrow of the map stays open over the call, and is
-- closed by what the columns end as. Assumes `Logic`.
use Rattle.starlark_columns.proofs.LogicNames.{◌≡◌, refl, sym, ap, ◌∙◌, ℕ, ◌+◌, List, [], ◌∷◌, not-mem-nil, full_share, a_type, named, inst_fn, Val, vptr, id⊢, ex_e, snd∗, Lft, GName, Share, ftrue, fsep, flft, fauth, sem, ◌⊑◌, fact, tables, ages, bor_new_deep, open_ref, name_new, ‵, raw, ◌⊛◌, some, later, ◌$◌, ◌∵◌, !, qed, by, move, keep, drop, use0, use1, use2, split, split3, join, pick, fsplit, fsplit3, fjoin, fjoin3, fpack, feq_i, rewrite, await, group, stop, fld, addr, and_then, no_more, returns, enter, alloc_all, pass_all, free_all, look_at, get, through, sets, lands_as, follows, RattleType, owns, mem, param, layouts, MutBor, NamedLft, mut_vals, mut_Tells, types_at, named_lft, nothing, heard, only, calls_at, ensured, lasts, triple_of, Contract, walk_of, proved, leaves, tells, spent, drops, drops_go, framed, ◌<◌, ◌^◌, length, map, length-map, u32, of_field, copy_shared, u32-field, u32-laws, u32-copy, Is, shows, part_at, param_laws, peeks, SProp, ⊑_refl}
use base.Share
use Rattle.starlark_columns.proofs.LoneValue.{lone_value}
use Rattle.starlark_columns.proofs.NamedLoan.{closes_named}
use Rattle.starlark_hash.specs.Entries.{pair_of}
use Rattle.starlark_vec2.specs.Lend as pairs
use Rattle.starlark_vec2.specs.PairList.{PairList, with_pairs, firsts_of}
use Rattle.starlark_vec2.specs.contracts.pairs_mut.PairsMut as P
use Rattle.starlark_vec2.specs.contracts.vec2.get_mut.Vec2+tuple2+K+V+B.iter_firsts_mut as g
use Rattle.starlark_vec2.proofs.pairs_mut.PairsMut.TheLaws as P-laws
use Rattle.starlark_vec2.proofs.vec2.get_mut.Vec2+tuple2+K+V+B.iter_firsts_mut.Met as firsts
use Rattle.starlark_vec2.proofs.RenamedLoan.{renamed}
use Rattle.starlark_vecmap.specs.EntryList.{EntryList, entry_list, entry_of, with_entries, with_values}
use Rattle.starlark_vecmap.specs.contracts.vec_map.VecMap.iter_mut as contract
use Rattle.starlark_vecmap.proofs.Views.{pair_of-entry_of}
use Rattle.starlark_vecmap.proofs.WrittenValues.{with_values-entry_of}
use Rattle.starlark_vecmap.proofs.VecMapOpen as O
use Rattle.starlark_vecmap.proofs.vec_map.VecMap.iter_mut as routine

pub iter_mut_spec : {M : Type 1} → routine.Statement.statement M
iter_mut_spec 𝓤 𝓛 𝓜 𝓡 wired A B LA LB =
    let H = 𝓛.H in let 𝓣 = tables 𝓤 H 𝓜 𝓡 𝓡.env in let En = contract.ended A B in let hs = drops En in let c = contract.clauses A B 𝓛 𝓜.mem 𝓡.returns in
    let inst = layouts (a_type ∷ a_type ∷ []) (A, (B, tt)) in let fn = inst_fn inst routine.Code.function in
    let K : RattleType = param 0 A in let V : RattleType = param 1 B in let W : RattleType = O.W K V in let CP : RattleType = O.CP K V in let One : Type 0 = A.Denot × B.Denot in
    let Run : Contract 𝓤 = triple_of 𝓛 (g.signature A B u32) (g.spec A B u32 𝓛 𝓜.mem 𝓡.returns) in
    let run = firsts.met 𝓤 𝓛 𝓜 𝓡 (routine.Code.calls-starlark_vec2::vec2::get_mut::Vec2+tuple2+K+V+B::iter_firsts_mut 𝓡.env wired) A B u32 LA LB (of_field u32-field u32-laws refl (copy_shared u32-field u32-copy)) in
    proved 𝓛 En hs c 𝓜 𝓡 (drops_go 𝓛 En (λ κs x f. refl, tt)) (contract.Key.name inst) fn (routine.Code.unfolded 𝓤 H 𝓜 𝓡 wired (A, (B, tt)))
    (λ κs. (mut_vals, tt)) (λ κs. (mut_Tells (named 0) κs.0 W, tt)) (λ κs qs bounds a gh are.
    let κ : Lft = κs.0 in let κA : Lft = κs.1.0 in let κB : Lft = κs.1.1.0 in let q : Share = qs.0 in let qA : Share = qs.1.0 in let qB : Share = qs.1.1.0 in
    let r : MutBor W.Denot = a.0 in let b : ℕ = r.ref_ptr.0 in let o : ℕ = r.ref_ptr.1 in let v : W.Denot = r.now in let γ : GName = r.ghost_name in
    let y : (walk_of 𝓛 En hs c).Ghost = ((κs, qs, bounds, a, (mut_vals r, tt)), gh) in let Post : Val → SProp 𝓤 = (walk_of 𝓛 En hs c).post y in
    let lft : NamedLft = named_lft 3 0 tt κs in let It : RattleType = P.the_row lft K V in
    qed 𝓛 (((‵ (flft κ q) ⊛ ‵ (flft κA qA) ⊛ ‵ (flft κB qB) ⊛ ‵ ftrue) ⊛ ‵ (owns (types_at En.signature.params κs) a y.0.4)) ∷ raw (fact 𝓤 (κA ⊑ A.lives)) ∷ raw (fact 𝓤 (κB ⊑ B.lives)) ∷ ‵ ftrue ∷ []) ∵
    move ! (1 ∷ 2 ∷ []) $ heard ! (κA ⊑ A.lives) (λ la. heard ! (κB ⊑ B.lives) (λ lb.
    split ! $ split3 ! $ move ! (2 ∷ []) $ split ! $ move ! (4 ∷ []) $ fsplit ! $ keep ! (4 ∷ 5 ∷ 2 ∷ 0 ∷ []) $
    -- [the tokens of κ, κA, κB; the list]
    enter ! 𝓣.C 𝓣.Λ fn (vptr b o ∷ []) Post $ alloc_all ! (λ l. pass_all ! refl ((tt, tt), tt) $
    sets ! (addr ! (through ! refl (fld ! refl (stop !)))) refl (tt, tt) $
    use1 𝓛 (‵ (flft κ (Share.left q)) ⊛ ‵ (flft κ (Share.right q))) (𝓛.lfts.lft_split κ q) $ split ! $
    move ! (4 ∷ []) $ fsplit3 ! $ drop ! $ open_ref ! tt (mem W) {b = b} {o = o} $
    use1 𝓛 (some (λ (d : (d : O.D K V) × O.Known K V v d). raw (O.Cuts K V 𝓛 b o v d))) (O.cut K V 𝓛 b o (param_laws 0 A LA) (param_laws 1 B LB) v) $ pick ! (λ z.
    let d : O.D K V = z.0 in let known = z.1 in let xs : PairList One ℕ = d.columns in let index : ℕ = o + O.columns_offset K V in let kept : PairList One ℕ → PairList One ℕ = λ w. with_pairs xs (pairs.with_values xs.pairs w.pairs) in
    -- the fields with the pairs w, and the map with them
    let written : PairList One ℕ → O.D K V = λ w. record d { columns = kept w } in let seen : PairList One ℕ → W.Denot = λ w. entry_list (map entry_of (kept w).pairs) xs.capacity in
    let keeps : W.Denot → W.Denot = λ w. with_entries v (with_values v.entries w.entries) in
    use1 𝓛 (‵ (part_at CP full_share xs b index) ⊛ raw (O.Rest K V 𝓛 b o d)) (id⊢ 𝓤 _) $ split ! $
    -- [the pairs; the rest; the open borrow; obs; auth; half of κ's token; those of κA, κB]
    name_new ! tt (CP.coded.code xs) (λ δ. move ! (2 ∷ 1 ∷ []) $ fjoin ! $ fpack ! CP.Denot (λ x. fsep ((mem CP).own_at x b index) (fauth δ (CP.coded.code x))) xs $
    -- [the content; obs δ; the rest; the open borrow; obs; auth; ..]
    move ! (3 ∷ []) $ ages ! (λ n. move ! (1 ∷ []) $ bor_new_deep ! tt n κ $
    -- [the borrow and its right; the open borrow; obs δ; the rest; obs; auth; the other half; the tokens of κA, κB]
    let lent : MutBor (PairList One ℕ) = record { ref_ptr = (b, index); ghost_name = δ; now = xs } in
    move ! (3 ∷ 0 ∷ []) $ feq_i ! (List Val) (mut_vals lent) (mut_vals lent) refl $ fjoin3 ! $ nothing ! $ move ! (1 ∷ 0 ∷ []) $ fjoin ! $
    -- [the argument; the right; the open borrow; the rest; obs; auth; the other half; the tokens of κA, κB]
    nothing ! $ use0 𝓛 (‵ (flft [] full_share)) (𝓛.lfts.lft-nil full_share) $ join ! $ move ! (9 ∷ 0 ∷ []) $ join ! $ move ! (8 ∷ 0 ∷ []) $ join ! $ move ! (7 ∷ 0 ∷ []) $ join ! $ join ! $
    nothing ! $ tells ! ([] ⊑ u32.lives) (⊑_refl []) $ tells ! (κB ⊑ B.lives) lb $ tells ! (κA ⊑ A.lives) la $ group ! 4 $ move ! (1 ∷ 0 ∷ []) $ join ! $
    let still : κ ⊑ [] = (λ a m. absurd (not-mem-nil m)) in
    let x : Run.Ghost = (((κ, (κA, (κB, ([], tt)))), (Share.right q, (qA, (qB, (full_share, tt)))), (bounds.0, (bounds.1.0, (still, tt))), (lent, tt), (mut_vals lent, tt)), tt) in
    use1 𝓛 (raw (Run.pre x)) (id⊢ 𝓤 _) $ calls_at ! (framed 𝓤 H 𝓜 𝓣) Run run x (and_then ! (get ! refl) (no_more !)) (λ u.
    use1 𝓛 (later (some (λ (t : List One × GName). ((‵ (flft κ (Share.right q)) ⊛ ‵ (flft κA qA) ⊛ ‵ (flft κB qB) ⊛ ‵ (flft [] full_share) ⊛ ‵ ftrue) ⊛ ‵ (It.own_val t (u ∷ []))) ⊛ raw (ensured 𝓛 (g.ended A B u32) (g.clauses A B u32 𝓛 𝓜.mem 𝓡.returns) x.0.0 x.0.3 tt t)))) (id⊢ 𝓤 _) $ await ! tt $ pick ! (λ t. split ! $ move ! (1 ∷ []) $
    use1 𝓛 (‵ (follows CP CP δ t.1 kept) ⊛ raw (fact 𝓤 (t.0 ≡ firsts_of xs.pairs)) ⊛ raw (fact 𝓤 (length xs.pairs < 2 ^ 64))) (ex_e 𝓤 _ (λ ws. snd∗ 𝓤 (sem 𝓛 (lasts (g.ended A B u32) x.0.0 x.0.3 ws)) _)) $
    split3 ! $ move ! (1 ∷ 2 ∷ []) $ heard ! (t.0 ≡ firsts_of xs.pairs) (λ rest. heard ! (length xs.pairs < 2 ^ 64) (λ fits.
    -- [what the pairs follow; the tokens with the iterator; the right; the open borrow; the rest; obs; auth]
    move ! (3 ∷ 5 ∷ 6 ∷ 2 ∷ 0 ∷ 4 ∷ []) $ group ! 6 $
    use1 𝓛 (later (some (λ (tie : GName). ‵ (flft κ (Share.left q)) ⊛ ‵ (follows W W γ tie keeps))))
    (closes_named 𝓛 (mem W) (mem CP) (mem CP) kept seen keeps (λ w. ap (λ m. with_entries m (with_values m.entries (seen w).entries)) (sym known.0) ∙ ap (λ es. entry_list es xs.capacity) (with_values-entry_of xs.pairs w.pairs))
    κ (Share.left q) b o b index γ δ t.1 (O.Rest K V 𝓛 b o d) (λ w. O.shut K V 𝓛 b o (seen w) (written w) (refl, known.1)) n (W.coded.code v) (W.coded.code v) v) $ await ! tt $ pick ! (λ tie. split ! $
    -- [half of κ's token; what the list follows; the tokens with the iterator]
    move ! (2 ∷ []) $ split ! $ split3 ! $ move ! (4 ∷ 0 ∷ []) $ use2 𝓛 (‵ (flft κ q)) (𝓛.lfts.lft_join κ q) $ move ! (2 ∷ []) $ split3 ! $ move ! (1 ∷ []) $ drop ! $
    -- [the token of κB; nothing; that of κ; that of κA; the iterator; what the list follows]
    move ! (4 ∷ []) $ peeks ! It (Is It) (shows 𝓛 It) t (u ∷ []) (λ is. let lone = lone_value 𝓛 It (P-laws.the_row_laws lft K V (param_laws 0 A LA) (param_laws 1 B LB)) t (u ∷ []) is in
    rewrite ! 0 (λ (us : List Val). ‵ (It.own_val t us)) lone.1 refl $ lands_as ! (ap only lone.1) refl lone.2 $
    let new : List One × GName = (t.0, tie) in use1 𝓛 (‵ (It.own_val new (lone.0 ∷ []))) (renamed lft K V 𝓛 t tie (lone.0 ∷ [])) $
    returns ! (look_at ! 0 refl) $ free_all ! refl $ move ! (1 ∷ 2 ∷ []) $ join ! $ move ! (3 ∷ 0 ∷ []) $ join ! $ move ! (2 ∷ 0 ∷ []) $ join ! $
    -- [the tokens; the iterator; what the list follows]
    tells ! (length v.entries < 2 ^ 64) (rw (ap (λ (m : EntryList A.Denot B.Denot). length m.entries) (sym known.0) ∙ length-map xs.pairs entry_of) fits) $
    tells ! (new.0 ≡ map pair_of v.entries) (rest ∙ sym (pair_of-entry_of xs.pairs) ∙ ap (λ (m : EntryList A.Denot B.Denot). map pair_of m.entries) known.0) $
    spent ! 1 $ move ! (3 ∷ 0 ∷ 4 ∷ 5 ∷ 1 ∷ 2 ∷ []) $ by ! (leaves 𝓛 En hs c y lone.0 new (tt, tt) (tt, tt)))))))))))))))
