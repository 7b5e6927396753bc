-- `bare` makes cells that take no bytes out of nothing. Assumes `Logic`.
use Rattle.starlark_columns.proofs.LogicNames.{◌≡◌, ℕ, ◌*◌, [], ◌∷◌, refl, w64, ftrue, flft, ◌⊑◌, fact, inst_fn, a_type, Val, vint, vstruct, vcons, vnil, alloc_all, pass_all, free_all, look_at, get, sets, ‵, raw, ◌⊛◌, ◌$◌, ◌∵◌, !, qed, by, move, keep, use0, use2, split, agg, stop, from, addr, and_then, no_more, returns, enter, layouts, uint_vals, uint_Tells, owns, Ptr, block_ptr, types_at, heard, Tuple, walk_of, El, proved, leaves, type_size, R, tells, spent, drops, drops_go}
use Rattle.starlark_columns.proofs.RowValues.{word, mark, address_made, AddressOf, RowOf, as_tuple, here, row_of_none}
use Rattle.starlark_columns.specs.contracts.block.bare as contract
use Rattle.starlark_columns.proofs.block.bare as routine

pub bare_spec : {M : Type 1} → routine.Statement.statement M
bare_spec 𝓤 𝓛 𝓜 𝓡 wired X L =
    let E : El = record { row = X; laws = L } in let inst = layouts (a_type ∷ []) (X, tt) in let En = contract.ended X in let c = contract.clauses X 𝓛 𝓜.mem 𝓡.returns in let hs = drops En in
    proved 𝓛 En hs c 𝓜 𝓡 (drops_go 𝓛 En (λ κs x f. refl, tt)) (contract.Key.name inst) (inst_fn inst routine.Code.function) (routine.Code.unfolded 𝓤 𝓛.H 𝓜 𝓡 wired (X, tt))
    (λ κs. (uint_vals w64, tt)) (λ κs. (uint_Tells w64, tt)) (λ κs qs bounds a g are.
    let n : ℕ = a.0 in let s : ℕ = type_size (R E) in let y : (walk_of 𝓛 En hs c).Ghost = ((κs, qs, bounds, a, (vint w64 n ∷ [], tt)), g) in
    qed 𝓛 (((‵ (flft κs.0 qs.0) ⊛ ‵ ftrue) ⊛ ‵ (owns (types_at En.signature.params κs) a y.0.4)) ∷ raw (fact 𝓤 (κs.0 ⊑ X.lives)) ∷ raw (fact 𝓤 (n * s ≡ 0)) ∷ []) ∵
    move ! (2 ∷ []) $ heard ! (n * s ≡ 0) (λ light. split ! $ keep ! (0 ∷ []) $
    enter ! _ _ _ _ _ $ alloc_all ! (λ l. pass_all ! refl ((tt, record { fits = are.0.1 }), tt) $
    sets ! (agg ! (no_more !)) refl (tt, tt) $ sets ! (addr ! (from ! (stop !))) refl (tt, tt) $
    sets ! (agg ! (and_then ! (get ! refl) (no_more !))) refl (tt, (tt, tt)) $ sets ! (agg ! (no_more !)) refl (tt, tt) $
    sets ! (agg ! (and_then ! (get ! refl) (no_more !))) refl (tt, (tt, tt)) $
    sets ! (agg ! (and_then ! (get ! refl) (and_then ! (get ! refl) (no_more !)))) refl (tt, ((tt, tt), ((tt, tt), tt))) $
    returns ! (look_at ! 0 refl) $ free_all ! refl $
    let p : Ptr = block_ptr (l 2) 0 in let v : Val = vstruct (vcons (word p) (vcons mark vnil)) in let At = AddressOf (R E) in let Own = RowOf (R E) in
    let r : At.Denot × Own.Denot = (record { at = p }, here E 𝓛 n (l 2) 0) in
    use0 𝓛 (‵ (Own.own_val r.1 (mark ∷ []))) (row_of_none E 𝓛 n (l 2) 0 light) $ use0 𝓛 (‵ (At.own_val r.0 (word p ∷ []))) (address_made (R E) 𝓛 p) $
    use2 𝓛 (‵ ((Tuple (At ∷ Own ∷ [])).own_val r (v ∷ []))) (as_tuple 𝓛 At Own r.0 r.1 (word p) mark) $ tells ! ((p ≡ p) × (r.1.cells ≡ r.1.cells)) (refl, refl) $ spent ! 1 $
    move ! (3 ∷ 0 ∷ 2 ∷ 1 ∷ []) $ by ! (leaves 𝓛 En hs c y v r (tt, tt) (tt, tt)))))
