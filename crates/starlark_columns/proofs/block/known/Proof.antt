-- `known` learns from the right to a block of `Global` that the block's address may be compared with null. Assumes
-- `Logic`.
use Rattle.starlark_columns.proofs.LogicNames.{◌≡◌, ℕ, ◌*◌, ◌<◌, [], ◌∷◌, refl, sym, Fml, ftrue, flft, guard_i, ◌⊑◌, fact, fact_use, inst_fn, Ty, ty_array, a_type, alloc_all, pass_all, free_all, look_at, get, sets, ‵, raw, ◌⊛◌, given, ◌$◌, ◌∵◌, !, qed, by, move, keep, use1, split, learn, rewrite, fsplit, fjoin, sem, of_opd, returns, enter, layouts, owns, Ptr, Testable, types_at, heard, walk_of, El, R, elτ, proved, leaves, type_size, ghosts, tells, spent, drops, drops_go, bare}
use Rattle.std.proofs.GlobalToken.{dealloc_token-Testable}
use Rattle.std.specs.contracts.alloc.Global as heap
use Rattle.starlark_columns.proofs.RowValues.{mark, mark_told, ClaimOf, some_weight}
use Rattle.starlark_columns.specs.contracts.block.known as contract
use Rattle.starlark_columns.proofs.block.known as routine

pub known_spec : {M : Type 1} → routine.Statement.statement M
known_spec 𝓤 𝓛 𝓜 𝓡 wired X L =
    let E : El = record { row = X; laws = L } in let inst = layouts (a_type ∷ []) (X, tt) in let En = contract.ended X in let c = contract.clauses X 𝓛 𝓜.mem 𝓡.returns in
    let Right = ClaimOf (R E) heap.the_row ghosts in let hs = drops En in
    proved 𝓛 En hs c 𝓜 𝓡 (drops_go 𝓛 En (λ κs x f. refl, tt)) (contract.Key.name inst) (inst_fn inst routine.Code.function) (routine.Code.unfolded 𝓤 𝓛.H 𝓜 𝓡 wired (X, tt))
    (λ κs. ((λ _. mark ∷ []), tt)) (λ κs. ((λ x vs is. mark_told (R E) vs is.0), tt)) (λ κs qs bounds a gh are.
    let right : Right.Denot = a.0 in let p : Ptr = right.at in let weight : ℕ = right.count * type_size (R E) in let τ : Ty = bare (ty_array (elτ E) right.count) in let token : Fml = ghosts.dealloc_token right.alloc τ p in
    let y : (walk_of 𝓛 En hs c).Ghost = ((κs, qs, bounds, a, (mark ∷ [], tt)), gh) in
    qed 𝓛 (((‵ (flft κs.0 qs.0) ⊛ ‵ ftrue) ⊛ ‵ (owns (types_at En.signature.params κs) a y.0.4)) ∷ raw (fact 𝓤 (κs.0 ⊑ X.lives)) ∷ raw (fact 𝓤 (0 < weight)) ∷ []) ∵
    move ! (2 ∷ []) $ heard ! (0 < weight) (λ some. split ! $ move ! (1 ∷ []) $ fsplit ! $ keep ! (0 ∷ 2 ∷ []) $ fsplit ! $ move ! (1 ∷ []) $
    -- [the right; the mark; the tokens]
    rewrite ! 0 ‵ (some_weight weight token some) refl $ use1 𝓛 (given (Testable p) (‵ token)) (fact_use 𝓤 (Testable p) (dealloc_token-Testable 𝓛 right.alloc τ p) (guard_i 𝓤 (Testable p) (sem 𝓛 token))) $ learn ! (λ told.
    rewrite ! 0 ‵ (sym (some_weight weight token some)) refl $ move ! (1 ∷ 0 ∷ []) $ fjoin ! $
    enter ! _ _ _ _ _ $ alloc_all ! (λ l. pass_all ! refl ((tt, (tt, tt)), tt) $ sets ! (of_opd ! (get ! refl)) refl (tt, (tt, tt)) $ returns ! (look_at ! 0 refl) $ free_all ! refl $
    tells ! ((right ≡ right) × Testable p) (refl, told) $ spent ! 1 $ move ! (3 ∷ 0 ∷ 2 ∷ 1 ∷ []) $ by ! (leaves 𝓛 En hs c y mark right (tt, tt) (tt, tt))))))
