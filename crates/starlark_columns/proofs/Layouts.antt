-- The memory of two arrays in one block, which is split into the memory of each and joined again; and the layout of the
-- block, whose sizes are capped at the greatest `usize`. Assumes `Logic`.
use Rattle.std.proofs.Common.{◌≡◌, ℕ, ◌+◌, ◌-◌, ◌*◌, ◌%◌, ◌^◌, ◌<◌, min, max, sym, ◌∙◌, arith}
use Rattle.starlark_columns.proofs.LogicNames.{zero, Bool, false, [], ◌∷◌, refl, ap, zero-add, eqb, cond, Ura, Fml, ftrue, froom, SProp, ent, sep, wand, id⊢, apply∗, bare, Ty, Tys, tcons, tnil, ty_array, capped_small, size, align, up, capped, rooms_at, ‵, raw, ◌⊛◌, ◌$◌, ◌∵◌, !, qed, by, move, keep, use1, use2, split, split3, group, rewrite, assume, done, Logic, sem, block_ptr, nothing, pad, HasLayout}
use prog.Align.{align_pos}
use prog.Capped.{capped_is, capped_small}
use Rattle.std_alloc.proofs.VecSteps.El.{align_fits}
use Rattle.starlark_columns.specs.Pair.{two_arrays, arrays_skipped, rooms_rejoin}
use Rattle.std.proofs.lemmas.Bool.Decides.{nat_tests}
use Rattle.std.proofs.lemmas.Grind.{common_steps}

-- what is owned of cells that take bytes (`some_weight`), and of cells that take none (`no_weight`)
pub some_weight : (k : ℕ) (F : Fml) → 0 < k → cond (eqb k 0) ftrue F ≡ F
some_weight k F h = let e : eqb k 0 ≡ false = grind (arith, nat_tests) in ap (λ (z : Bool). cond z ftrue F) e

pub no_weight : (k : ℕ) (F : Fml) → k ≡ 0 → cond (eqb k 0) ftrue F ≡ ftrue
no_weight k F e = ap (λ (i : ℕ). cond (eqb i 0) ftrue F) e

pub starts_flush : (τ : Ty) → up (align τ) 0 ≡ 0
starts_flush τ = grind (arith, common_steps)

module _ (τ σ : Ty) (n : ℕ) {M : Type 1} {𝓤 : Ura M} (𝓛 : Logic 𝓤) (b o far : ℕ) (at : far ≡ up (align σ) (n * size τ)) where
  open 𝓛 use {H}

  pub cut_in_two : ent 𝓤 (H.room (two_arrays τ σ n) b o)
      (sep 𝓤 (H.room (ty_array τ n) b o) (sep 𝓤 (H.room (ty_array σ n) b (o + far)) (sem 𝓛 (rooms_rejoin τ σ (block_ptr b o) (block_ptr b (o + far)) n))))
  cut_in_two =
      let both : Tys = tcons (ty_array τ n) (tcons (ty_array σ n) tnil) in let rooms : SProp 𝓤 = rooms_at 𝓤 H both zero b o in let Back : SProp 𝓤 = wand 𝓤 rooms (H.room (two_arrays τ σ n) b o) in
      let first : ℕ = up (align τ) 0 in let second : ℕ = up (align σ) (first + n * size τ) in let Rejoin = rooms_rejoin τ σ (block_ptr b o) (block_ptr b (o + far)) n in
      let first_is : o + first ≡ o = omega (arith, starts_flush τ) in let second_is : o + second ≡ o + far = rw (starts_flush τ, zero-add, at) in
      let rejoins : ent 𝓤 Back (sem 𝓛 Rejoin) = qed 𝓛 (raw Back ∷ []) ∵ assume ! (‵ (froom (bare (ty_array τ n)) b o) ⊛ ‵ (froom (bare (ty_array σ n)) b (o + far))) $ split ! $
      use1 𝓛 (‵ (froom (ty_array τ n) b o)) (𝓛.laws.raw-room (ty_array τ n) b o) $ move ! (1 ∷ []) $ use1 𝓛 (‵ (froom (ty_array σ n) b (o + far))) (𝓛.laws.raw-room (ty_array σ n) b (o + far)) $ move ! (1 ∷ []) $
      rewrite ! 0 (λ (d : ℕ). ‵ (froom (ty_array τ n) b d)) (sym first_is) refl $ rewrite ! 1 (λ (d : ℕ). ‵ (froom (ty_array σ n) b d)) (sym second_is) refl $
      nothing ! $ move ! (1 ∷ 2 ∷ 0 ∷ []) $ group ! 3 $ use2 𝓛 (‵ (froom (two_arrays τ σ n) b o)) (apply∗ 𝓤 rooms (H.room (two_arrays τ σ n) b o)) $ by ! (𝓛.laws.room-raw (two_arrays τ σ n) b o) in
      qed 𝓛 (‵ (froom (two_arrays τ σ n) b o) ∷ []) ∵ use1 𝓛 (raw rooms ⊛ raw Back) (𝓛.laws.room_fields [] both b o) $ split ! $
      use1 𝓛 (‵ (froom (ty_array τ n) b (o + first)) ⊛ ‵ (froom (ty_array σ n) b (o + second)) ⊛ ‵ ftrue) (id⊢ 𝓤 rooms) $ split3 ! $
      rewrite ! 0 (λ (d : ℕ). ‵ (froom (ty_array τ n) b d)) first_is refl $ rewrite ! 1 (λ (d : ℕ). ‵ (froom (ty_array σ n) b d)) second_is refl $
      keep ! (3 ∷ 0 ∷ 1 ∷ []) $ use1 𝓛 (‵ Rejoin) rejoins $ move ! (1 ∷ 2 ∷ 0 ∷ []) $ done !

-- each of both arrays takes fewer than 2 ^ 63 bytes, since the block does
pub both_within : (τ σ : Ty) (n z : ℕ) → capped (size (two_arrays τ σ n)) ≡ z → z < 2 ^ 63 → (n * size τ < 2 ^ 63) × (n * size σ < 2 ^ 63)
both_within τ σ n z laid fits = let fit = capped_small (size (two_arrays τ σ n)) (rw laid fits) in (omega (arith, fit), omega (arith, fit))

-- ---- capped sizes
abbrev Greatest : ℕ
Greatest = 2 ^ 64 - 1

cut : (n : ℕ) → capped n ≡ min n Greatest
cut n = grind (arith, nat_tests)

times_cut : (n s : ℕ) → min (n * capped s) Greatest ≡ capped (n * s)
times_cut n s = rw (cut s, cut (n * s)) (grind (arith, common_steps))

up_cut : (x k : ℕ) → min (capped x + pad k (capped x)) Greatest ≡ capped (up k x)
up_cut x k = rw (cut x, cut (up k x)) (grind arith)

exact : (τ : Ty) → capped (align τ) ≡ align τ
exact τ = capped_is (align τ) (align_fits τ)

pub some_align : (τ : Ty) (a : ℕ) → a ≡ capped (align τ) → 0 < a
some_align τ a e = omega (arith, exact τ, align_pos τ)

-- the offset, the size and the alignment that `laid_out` computes are those of two arrays
pub layout_is : (τ σ : Ty) (n a b al f s off end z : ℕ) → a ≡ capped (align τ) → b ≡ capped (align σ) → al ≡ max a b → f ≡ min (n * capped (size τ)) Greatest → s ≡ min (n * capped (size σ)) Greatest
    → off ≡ min (f + pad b f) Greatest → end ≡ min (off + s) Greatest → z ≡ min (end + pad al end) Greatest → HasLayout (two_arrays τ σ n) z al
layout_is τ σ n a b al f s off end z ea eb el ef es eo ee ez =
    let ω = two_arrays τ σ n in let behind = up (align σ) (n * size τ) in
    let aligned : al ≡ align ω = omega (arith, exact τ, exact σ, align_pos σ) in
    let sized : size ω ≡ up al (behind + n * size σ) = rw (starts_flush τ, zero-add, aligned) in
    let far : off ≡ capped behind = rw (eo, ef, eb, exact σ, times_cut n (size τ)) (up_cut (n * size τ) (align σ)) in
    let ends : end ≡ capped (behind + n * size σ) = omega (arith, far, times_cut n (size σ), cut behind, cut (n * size σ), cut (behind + n * size σ)) in
    (rw (sized, ez, ends) (sym (up_cut (behind + n * size σ) al)), exact ω ∙ sym aligned)

-- the offset computed modulo 2^64 is the exact one if the block takes fewer than 2 ^ 63 bytes
pub skipped_exact : (τ σ : Ty) (n z al : ℕ) → HasLayout (two_arrays τ σ n) z al → z < 2 ^ 63 → arrays_skipped τ σ n ≡ up (align σ) (n * size τ)
skipped_exact τ σ n z al laid fits =
    let small = capped_small (size (two_arrays τ σ n)) (rw laid.0 fits) in let flush = starts_flush τ in let far = up (align σ) (n * size τ) in
    let short : far < 2 ^ 64 = omega (arith, rw (flush, zero-add) at small) in let bytes = (both_within τ σ n z laid.0 fits).0 in
    let whole : (n * capped (size τ)) % 2 ^ 64 ≡ n * size τ = grind (arith, times_cut n (size τ), capped_is (n * size τ)) in
    rw (whole, exact σ) (grind arith)
