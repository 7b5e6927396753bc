-- Lemmas on the definitions about lists of entries.
use Rattle.std.proofs.Common.{◌≡◌, ℕ, zero, suc, ◌<◌, Bool, false, eqb, List, [], ◌∷◌, ◌++◌, length, get_or, None, refl, ap, ◌∙◌, arith, IsPermutation}
use Rattle.std.specs.Prelude.{◌&&◌, remove}
use Rattle.std.specs.List.{swap}
use Rattle.std.proofs.lemmas.Bool.Decides.{nat_tests}
use Rattle.std.proofs.lemmas.List.Edits.{swap_is, length-swap}
use Rattle.std.specs.Cmp.{IsEquivalence}
use Rattle.std.specs.Prelude.{AllPairs}
use Rattle.std.proofs.lemmas.Grind.{elements}
use Rattle.std.proofs.lemmas.List.Sorted.{IsPermutation-keeps}
use Rattle.std.proofs.lemmas.List.Quantifiers.{all_pairs_push, all_pairs_remove}
use Rattle.starlark_hash.specs.declared.hashed.Hashed.{Hashed}
use Rattle.starlark_hash.specs.Entries.{Entry, stands_under, set_value_at, match_of, IsSingle}
use Rattle.starlark_hash.proofs.PositionLemmas.{position-None}

module _ {K V : Type 0} where
  -- writing a value keeps the length and each key
  pub length-set_value_at : (es : List (Entry K V)) (i : ℕ) (value : V) → length (set_value_at es i value) ≡ length es
  length-set_value_at (e ∷ es) (suc i) value = ap suc (length-set_value_at es i value)
  length-set_value_at es i value = refl

  pub set_value_at-key : (es : List (Entry K V)) (i : ℕ) (value : V) (k : ℕ) (d : Entry K V) → (get_or (set_value_at es i value) k d).0 ≡ (get_or es k d).0
  set_value_at-key (e ∷ es) (suc i) value (suc k) d = set_value_at-key es i value k d
  set_value_at-key (e ∷ es) zero value (suc k) d = refl
  set_value_at-key es i value k d = refl

module _ {K : Type 0} (eq : K → K → Bool) where
  -- whether two `Hashed` keys have the same hash and equal keys
  abbrev clash : Hashed K → Hashed K → Bool
  clash d e = eqb e.hash.0 d.hash.0 && eq d.key e.key

  clash-sym : IsEquivalence eq → (d e : Hashed K) → clash d e ≡ clash e d
  clash-sym laws d e = let same = laws.symm d.key e.key in grind (arith, nat_tests)

-- a symmetric relation between each two items still holds after a swap
pairs_swap : {X : Type 0} (R : X → X → Type 0) → ((x y : X) → R x y → R y x) → (xs : List X) (i j : ℕ) → i < length xs → j < length xs → AllPairs R xs → AllPairs R (swap xs i j)
pairs_swap R flip xs i j p q all a b d below inside = rw (← swap_is xs i j d p q) (grind (arith, elements, length-swap xs i j, all, flip))

module _ {K V : Type 0} (eq : K → K → Bool) where
  -- a single list stays single when an entry without a match is appended
  pub IsSingle-push : IsEquivalence eq → (es : List (Entry K V)) (key : Hashed K) (value : V) → IsSingle eq es → match_of eq es key ≡ None → IsSingle eq (es ++ (key, value) ∷ [])
  IsSingle-push laws es key value single none =
      all_pairs_push (λ d e. stands_under d.0.hash (eq d.0.key) e ≡ false) es (key, value) single
      (λ k d below. clash-sym eq laws (get_or es k d).0 key ∙ position-None (stands_under key.hash (eq key.key)) es none k d below)

  -- a single list stays single when an entry is removed
  pub IsSingle-remove : (es : List (Entry K V)) (i : ℕ) → i < length es → IsSingle eq es → IsSingle eq (remove es i)
  IsSingle-remove es i below single = all_pairs_remove (λ d e. stands_under d.0.hash (eq d.0.key) e ≡ false) es i below single

  -- a single list stays single when it is rearranged
  pub IsSingle-permutation : IsEquivalence eq → (es fs : List (Entry K V)) → IsSingle eq es → IsPermutation es fs → IsSingle eq fs
  IsSingle-permutation laws es fs single moves =
      IsPermutation-keeps es (IsSingle eq) single
      (λ l i j p q s. pairs_swap (λ d e. stands_under d.0.hash (eq d.0.key) e ≡ false) (λ x y h. clash-sym eq laws y.0 x.0 ∙ h) l i j p q s) fs moves
