-- Pairs that move from one list to another.
use Rattle.starlark_hash.proofs.Common.{◌≡◌, ℕ, Bool, cond, List, ◌∷◌, ◌++◌, Option, Some, None, sym, ◌∙◌, arith, IsPermutation, IsEquivalence, lookup, set_value, MatchOption, none-some, IsPermutation-sym, IsPermutation-trans, IsPermutation-middle, IsPermutation-append_right, sum_by-IsPermutation, common_steps}
use Rattle.starlark_unordered.specs.Pairs.{found, HasDistinctKeys}
use Rattle.starlark_unordered.proofs.Lists.{nothing}

module _ {K V : Type 0} where
  pub distinct-permutation : (eq : K → K → Bool) (ps qs : List (K × V)) → IsPermutation ps qs → HasDistinctKeys eq ps → HasDistinctKeys eq qs
  distinct-permutation eq ps qs same once k = omega (arith, sum_by-IsPermutation (λ (p : K × V). cond {A = ℕ} (eq k p.0) 1 0) ps qs same, once k)

  -- the first pair of one list is inserted into the other
  pub moves_one : (p : K × V) (rest es later : List (K × V)) → IsPermutation (p ∷ es) later → IsPermutation (p ∷ rest ++ es) (rest ++ later)
  moves_one p rest es later put =
      IsPermutation-trans (p ∷ (rest ++ es)) (rest ++ p ∷ es) (rest ++ later)
      (IsPermutation-sym (rest ++ p ∷ es) (p ∷ (rest ++ es)) (IsPermutation-middle rest p es))
      (IsPermutation-append_right rest (p ∷ es) later put)

  module _ (eq : K → K → Bool) (laws : IsEquivalence eq) (p : K × V) (rest es later : List (K × V)) (once : HasDistinctKeys eq (p ∷ rest ++ es)) where
    -- in a map of the standard library, which lacks the key if keys are distinct, there is one entry more
    pub moves_on : (old : Option V) → old ≡ lookup (eq p.0) es → MatchOption old (IsPermutation (p ∷ es) later) (λ _. later ≡ set_value (eq p.0) es p.1)
        → (whole : List (K × V)) → IsPermutation whole (p ∷ rest ++ es) → record { distinct : HasDistinctKeys eq (rest ++ later); same : IsPermutation whole (rest ++ later) }
    unfolding found
    moves_on (Some v) is put whole same =
        let lacks = nothing (eq p.0) es (grind (arith, common_steps, laws.refl p.0, once p.0)) in absurd (none-some v (sym lacks ∙ sym is))
    moves_on None is put whole same =
        let step = moves_one p rest es later put in
        record { distinct = distinct-permutation eq (p ∷ rest ++ es) (rest ++ later) step once; same = IsPermutation-trans whole (p ∷ rest ++ es) (rest ++ later) same step }
