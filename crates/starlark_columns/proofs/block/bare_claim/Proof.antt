-- `bare_claim` makes a right to nothing. Assumes `Logic`.
use Rattle.starlark_columns.proofs.LogicNames.{◌≡◌, ℕ, ◌*◌, [], ◌∷◌, refl, sym, w64, flft, ◌⊑◌, fact, inst_fn, bare, ty_array, a_type, named, dcons, dnil, vint, vptr, alloc_all, pass_all, free_all, look_at, get, sets, ‵, raw, ◌⊛◌, ◌$◌, ◌∵◌, !, qed, by, move, keep, split, rewrite, agg, and_then, no_more, returns, enter, lone, param, bounded, uint_vals, uint_Tells, RattleType, owns, Ptr, shr_vals, shr_Tells, types_at, heard, nothing, walk_of, proved, leaves, type_size, tells, spent, drops, drops_go, toks}
use Rattle.starlark_columns.proofs.RowValues.{word, word_good, mark, marked, address_told, AddressOf, ClaimOf, no_weight}
use Rattle.starlark_columns.specs.contracts.block.bare_claim as contract
use Rattle.starlark_columns.proofs.block.bare_claim as routine

pub bare_claim_spec : {M : Type 1} → routine.Statement.statement M
bare_claim_spec 𝓤 𝓛 𝓜 𝓡 wired X U L LU g d dd met _ =
    let inst = bounded (a_type ∷ a_type ∷ []) (X, (U, tt)) (dcons d (dcons dd dnil)) in let En = contract.ended X U g d dd in let c = contract.clauses X U g d dd 𝓛 𝓜.mem 𝓡.returns in
    let R : RattleType = param 0 X in let W : RattleType = param 1 U in let At = AddressOf R in let Right = ClaimOf R W g in let hs = drops En in
    proved 𝓛 En hs c 𝓜 𝓡 (drops_go 𝓛 En (λ κs x f. refl, (λ κs x f. refl, (λ κs x f. refl, tt)))) (contract.Key.name inst) (inst_fn inst routine.Code.function) (routine.Code.unfolded 𝓤 𝓛.H 𝓜 𝓡 wired (X, (U, tt)) d dd)
    (λ κs. (shr_vals, ((λ x. word x.at ∷ []), (uint_vals w64, tt)))) (λ κs. (shr_Tells (named 0) κs.0 W, (address_told R, (uint_Tells w64, tt)))) (λ κs qs bounds a gh are.
    let hp : ℕ × ℕ = a.0.ref_ptr in let p : Ptr = a.1.0.at in let n : ℕ = a.1.1.0 in let weight : ℕ = n * type_size R in
    let y : (walk_of 𝓛 En hs c).Ghost = ((κs, qs, bounds, a, (vptr hp.0 hp.1 ∷ [], (word p ∷ [], (vint w64 n ∷ [], tt)))), gh) in
    qed 𝓛 (((‵ (flft κs.0 qs.0) ⊛ raw (toks 𝓛 2 κs.1 qs.1)) ⊛ ‵ (owns (types_at En.signature.params κs) a y.0.4)) ∷ raw (fact 𝓤 (κs.1.0 ⊑ X.lives)) ∷ raw (fact 𝓤 (κs.1.1.0 ⊑ U.lives)) ∷ raw (fact 𝓤 (weight ≡ 0)) ∷ []) ∵
    move ! (3 ∷ []) $ heard ! (weight ≡ 0) (λ light. split ! $ keep ! (0 ∷ []) $
    enter ! _ _ _ _ _ $ alloc_all ! (λ l. pass_all ! refl ((tt, tt), (word_good p, ((tt, record { fits = are.1.1.0.1 }), tt))) $
    sets ! (agg ! (no_more !)) refl (tt, tt) $ sets ! (agg ! (and_then ! (get ! refl) (no_more !))) refl (tt, (tt, tt)) $ returns ! (look_at ! 0 refl) $ free_all ! refl $
    let r : Right.Denot = record { mark = record {}; at = p; count = n; alloc = a.0.now } in let owed = g.dealloc_token a.0.now (bare (ty_array (lone R.mir) n)) p in
    nothing ! $ rewrite ! 0 ‵ (sym (no_weight weight owed light)) refl $ marked ! R $ tells ! ((p ≡ p) × (n ≡ n)) (refl, refl) $ spent ! 3 $
    move ! (3 ∷ 0 ∷ 2 ∷ 1 ∷ []) $ by ! (leaves 𝓛 En hs c y mark r (tt, (tt, (tt, tt))) (tt, (tt, (tt, tt)))))))
