-- `item_size` returns the machine's number. Assumes `Logic`.
use Rattle.starlark_columns.proofs.LogicNames.{ℕ, ◌≡◌, ◌^◌, List, [], ◌∷◌, refl, w64, ftrue, flft, inst_fn, a_type, Val, vint, capped_fits, capped, alloc_all, pass_all, free_all, look_at, sets, ‵, raw, ◌⊛◌, ◌$◌, ◌∵◌, !, qed, by, move, keep, fjoin, feq_i, flt_i, split, size_word, of_opd, returns, enter, param, layouts, nothing, walk_of, proved, leaves, type_size, tells}
use Rattle.starlark_columns.specs.contracts.block.item_size as contract
use Rattle.starlark_columns.proofs.block.item_size as routine

pub item_size_spec : {M : Type 1} → routine.Statement.statement M
item_size_spec 𝓤 𝓛 𝓜 𝓡 wired X L =
    let inst = layouts (a_type ∷ []) (X, tt) in let c = contract.clauses X 𝓛 𝓜.mem 𝓡.returns in let size : ℕ = type_size (param 0 X) in let n : ℕ = capped size in
    proved 𝓛 (contract.ended X) tt c 𝓜 𝓡 tt (contract.Key.name inst) (inst_fn inst routine.Code.function) (routine.Code.unfolded 𝓤 𝓛.H 𝓜 𝓡 wired (X, tt)) (λ κs. tt) (λ κs. tt) (λ κs qs bounds a g are.
    let y : (walk_of 𝓛 (contract.ended X) tt c).Ghost = ((κs, qs, bounds, a, tt), g) in
    qed 𝓛 (((‵ (flft κs.0 qs.0) ⊛ ‵ ftrue) ⊛ ‵ ftrue) ∷ raw ((c κs a).requires g) ∷ []) ∵ split ! $ move ! (1 ∷ []) $ keep ! (1 ∷ []) $
    enter ! _ _ _ _ _ $ alloc_all ! (λ l. pass_all ! refl tt $
    sets ! (of_opd ! (size_word !)) refl (tt, record { fits = capped_fits size }) $ returns ! (look_at ! 0 refl) $ free_all ! refl $
    tells ! (n ≡ n) refl $ flt_i ! n (2 ^ 64) (capped_fits size) $ feq_i ! (List Val) (vint w64 n ∷ []) (vint w64 n ∷ []) refl $ fjoin ! $ nothing ! $ move ! (3 ∷ 0 ∷ 1 ∷ 2 ∷ []) $ by ! (leaves 𝓛 (contract.ended X) tt c y (vint w64 n) n tt tt)))
