-- `bare_pair` makes cells that take no bytes, and a right to nothing, out of nothing. Assumes `Logic`.
use Rattle.starlark_columns.proofs.LogicNames.{◌≡◌, ℕ, ◌+◌, ◌*◌, [], ◌∷◌, refl, sym, arith, w64, fsep, flft, ◌⊑◌, fact, inst_fn, bare, a_type, named, dcons, dnil, Val, vint, vptr, vstruct, vcons, vnil, alloc_all, pass_all, free_all, look_at, get, sets, ‵, raw, ◌⊛◌, ◌$◌, ◌∵◌, !, qed, by, move, keep, use0, use1, split, fjoin, feq_i, rewrite, agg, stop, from, addr, and_then, no_more, returns, enter, lone, param, bounded, uint_vals, uint_Tells, RattleType, owns, Ptr, block_ptr, shr_vals, shr_Tells, types_at, heard, nothing, Tuple, tuple_type, walk_of, El, proved, leaves, type_size, R, tells, spent, drops, drops_go, toks}
use Rattle.starlark_columns.proofs.RowValues.{word, mark, marked, as_struct, declared, address_made, AddressOf, RowOf, PairClaimOf, no_weight, two_arrays, rooms_rejoin, skipped, here, row_of_none}
use Rattle.starlark_columns.specs.contracts.block.bare_pair as contract
use Rattle.starlark_columns.proofs.block.bare_pair as routine

pub bare_pair_spec : {M : Type 1} → routine.Statement.statement M
bare_pair_spec 𝓤 𝓛 𝓜 𝓡 wired X Y U L LY LU g d dd met _ =
    let E : El = record { row = X; laws = L } in let F : El = record { row = Y; laws = LY } in
    let inst = bounded (a_type ∷ a_type ∷ a_type ∷ []) (X, (Y, (U, tt))) (dcons d (dcons dd dnil)) in let En = contract.ended X Y U g d dd in let c = contract.clauses X Y U g d dd 𝓛 𝓜.mem 𝓡.returns in
    let S : RattleType = param 1 Y in let W : RattleType = param 2 U in let hs = drops En in
    let At = AddressOf (R E) in let Own = RowOf (R E) in let Bwn = RowOf S in let Right = PairClaimOf (R E) S W g in let Four : RattleType = Tuple (At ∷ Own ∷ Bwn ∷ Right ∷ []) in
    proved 𝓛 En hs c 𝓜 𝓡 (drops_go 𝓛 En (λ κs x f. refl, (λ κs x f. refl, tt))) (contract.Key.name inst) (inst_fn inst routine.Code.function) (routine.Code.unfolded 𝓤 𝓛.H 𝓜 𝓡 wired (X, (Y, (U, tt))) d dd)
    (λ κs. (shr_vals, (uint_vals w64, tt))) (λ κs. (shr_Tells (named 0) κs.0 W, (uint_Tells w64, tt))) (λ κs qs bounds a gh are.
    let hp : ℕ × ℕ = a.0.ref_ptr in let n : ℕ = a.1.0 in let s : ℕ = type_size (R E) in let t : ℕ = type_size S in let weight : ℕ = n * (s + t) in let far : ℕ = skipped (R E) S n in
    let y : (walk_of 𝓛 En hs c).Ghost = ((κs, qs, bounds, a, (vptr hp.0 hp.1 ∷ [], (vint w64 n ∷ [], tt))), gh) in
    qed 𝓛 (((‵ (flft κs.0 qs.0) ⊛ raw (toks 𝓛 3 κs.1 qs.1)) ⊛ ‵ (owns (types_at En.signature.params κs) a y.0.4)) ∷ raw (fact 𝓤 (κs.1.0 ⊑ X.lives)) ∷ raw (fact 𝓤 (κs.1.1.0 ⊑ Y.lives)) ∷ raw (fact 𝓤 (κs.1.1.1.0 ⊑ U.lives)) ∷ raw (fact 𝓤 (weight ≡ 0)) ∷ []) ∵
    move ! (4 ∷ []) $ heard ! (weight ≡ 0) (λ light. split ! $ keep ! (0 ∷ []) $
    let first : n * s ≡ 0 = omega (arith, light) in let second : n * t ≡ 0 = omega (arith, light) in
    enter ! _ _ _ _ _ $ alloc_all ! (λ l. pass_all ! refl ((tt, tt), ((tt, record { fits = are.1.0.1 }), tt)) $
    sets ! (agg ! (no_more !)) refl (tt, tt) $ sets ! (addr ! (from ! (stop !))) refl (tt, tt) $
    sets ! (agg ! (and_then ! (get ! refl) (no_more !))) refl (tt, (tt, tt)) $
    sets ! (agg ! (no_more !)) refl (tt, tt) $ sets ! (agg ! (and_then ! (get ! refl) (no_more !))) refl (tt, (tt, tt)) $
    sets ! (agg ! (no_more !)) refl (tt, tt) $ sets ! (agg ! (and_then ! (get ! refl) (no_more !))) refl (tt, (tt, tt)) $
    sets ! (agg ! (no_more !)) refl (tt, tt) $ sets ! (agg ! (and_then ! (get ! refl) (no_more !))) refl (tt, (tt, tt)) $
    sets ! (agg ! (and_then ! (get ! refl) (and_then ! (get ! refl) (and_then ! (get ! refl) (and_then ! (get ! refl) (no_more !)))))) refl (tt, ((tt, tt), ((tt, tt), ((tt, tt), ((tt, tt), tt))))) $
    returns ! (look_at ! 0 refl) $ free_all ! refl $
    let p : Ptr = block_ptr (l 3) 0 in let r : Ptr = block_ptr (l 3) (0 + far) in let v : Val = vstruct (vcons (word p) (vcons mark (vcons mark (vcons mark vnil)))) in
    let x : Four.Denot = (record { at = p }, here E 𝓛 n (l 3) 0, here F 𝓛 n (l 3) (0 + far), record { mark = record {}; firsts = p; seconds = r; count = n; alloc = a.0.now }) in
    let owed = fsep (g.dealloc_token a.0.now (bare (two_arrays (lone (R E).mir) (lone S.mir) n)) p) (rooms_rejoin (lone (R E).mir) (lone S.mir) p r n) in
    nothing ! $ rewrite ! 0 ‵ (sym (no_weight weight owed light)) refl $ feq_i ! (Ptr × Ptr) (p, r) (p, r) refl $ fjoin ! $ marked ! (R E) $
    use0 𝓛 (‵ (Bwn.own_val x.2 (mark ∷ []))) (row_of_none F 𝓛 n (l 3) (0 + far) second) $ use0 𝓛 (‵ (Own.own_val x.1 (mark ∷ []))) (row_of_none E 𝓛 n (l 3) 0 first) $
    use0 𝓛 (‵ (At.own_val x.0 (word p ∷ []))) (address_made (R E) 𝓛 p) $ nothing ! $ move ! (4 ∷ 0 ∷ []) $ fjoin ! $ move ! (3 ∷ 0 ∷ []) $ fjoin ! $ move ! (2 ∷ 0 ∷ []) $ fjoin ! $ move ! (1 ∷ 0 ∷ []) $ fjoin ! $
    use1 𝓛 (‵ (Four.own_val x (v ∷ []))) (as_struct 𝓛 (declared (tuple_type (At ∷ Own ∷ Bwn ∷ Right ∷ []))) (x.0, (x.1, (x.2, (x.3, tt)))) (word p ∷ [], (mark ∷ [], (mark ∷ [], (mark ∷ [], tt))))) $
    tells ! ((p ≡ p) × (x.1.cells ≡ x.1.cells) × (x.2.cells ≡ x.2.cells) × (p ≡ p) × (r ≡ r) × (n ≡ n)) (refl, refl, refl, refl, refl, refl) $ spent ! 2 $
    move ! (3 ∷ 0 ∷ 2 ∷ 1 ∷ []) $ by ! (leaves 𝓛 En hs c y v x (tt, (tt, tt)) (tt, (tt, tt))))))
