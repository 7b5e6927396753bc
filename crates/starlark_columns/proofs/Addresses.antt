-- The machine values of an `Address` and of a `Spot`, which own nothing. Assumes `Logic`.
use Rattle.starlark_columns.proofs.LogicNames.{◌≡◌, ℕ, ◌<◌, ◌^◌, List, [], ◌∷◌, ◌++◌, refl, ap, ◌∙◌, lit<, w64, Ura, ent, emp, ty_ptr, ty_int, ty_struct, tcons, tnil, Val, vint, vstruct, vcons, vnil, of_list, has_ty, WT, Logic, sem, Is, RattleType, Ptr, block_ptr, null_ptr, ptr_val, makes_shadow, T}
use Rattle.starlark_columns.specs.contracts.block.Address as address
use Rattle.starlark_columns.specs.contracts.block.Spot as spot

-- the machine value of an `Address`
abbrev pub word : Ptr → Val
word p = vstruct (vcons (ptr_val p) vnil)

pub word_good : (p : Ptr) → T (has_ty (ty_struct [] (tcons ty_ptr tnil)) (word p)) × WT (word p)
word_good (block_ptr b o) = (tt, (tt, tt))
word_good null_ptr = (tt, (record { fits = lit< tt }, tt))

-- the machine value of a `Spot`
abbrev pub words : Ptr → ℕ → Val
words p n = vstruct (vcons (word p) (vcons (vint w64 n) vnil))

pub words_good : (p : Ptr) (n : ℕ) → n < 2 ^ 64 → T (has_ty (ty_struct [] (tcons (ty_struct [] (tcons ty_ptr tnil)) (tcons (ty_int w64) tnil))) (words p n)) × WT (words p n)
words_good (block_ptr b o) n fits = (tt, ((tt, tt), (record { fits = fits }, tt)))
words_good null_ptr n fits = (tt, ((record { fits = lit< tt }, tt), (record { fits = fits }, tt)))

module _ (R : RattleType) where
  pub address_made : {M : Type 1} {𝓤 : Ura M} (𝓛 : Logic 𝓤) (p : Ptr) → ent 𝓤 (emp 𝓤) (sem 𝓛 ((address.the_row R).own_val (record { at = p }) (word p ∷ [])))
  address_made 𝓛 p = makes_shadow 𝓛 ((address.the_row R).own_val (record { at = p }) (word p ∷ [])) (λ vss. (tt, (tt, tt))) ((ptr_val p ∷ [], tt), (refl, (refl, tt)))

  pub address_told : (x : (address.the_row R).Denot) (vs : List Val) → Is (address.the_row R) x vs → vs ≡ word x.at ∷ []
  address_told x vs is = is.1.0 ∙ ap (λ (ws : List Val). vstruct (of_list (ws ++ [])) ∷ []) is.1.1.0

  abbrev pub At : RattleType
  At = spot.the_row R

  pub spot_made : {M : Type 1} {𝓤 : Ura M} (𝓛 : Logic 𝓤) (x : At.Denot) → x.count < 2 ^ 64 → ent 𝓤 (emp 𝓤) (sem 𝓛 (At.own_val x (words x.address.at x.count ∷ [])))
  spot_made 𝓛 x fits = let p = x.address.at in let n = x.count in makes_shadow 𝓛 (At.own_val x (words p n ∷ [])) (λ vss. (tt, ((λ uss. (tt, (tt, tt))), ((tt, tt), tt))))
      ((word p ∷ [], (vint w64 n ∷ [], tt)), (refl, (((ptr_val p ∷ [], tt), (refl, (refl, tt))), ((refl, fits), tt))))

  pub spot_told : (x : At.Denot) (vs : List Val) → Is At x vs → (vs ≡ words x.address.at x.count ∷ []) × (x.count < 2 ^ 64)
  spot_told x vs is = (is.1.0 ∙ (λ i. vstruct (of_list (address_told x.address is.0.0 is.1.1.0 i ++ (is.1.1.1.0.0 i ++ []))) ∷ []), is.1.1.1.0.1)
