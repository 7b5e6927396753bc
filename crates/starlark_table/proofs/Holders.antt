-- The items under a hash that a search has still to ask about. They are those of a list in which the search empties each
-- slot that it has asked about.
use Rattle.starlark_hash.proofs.Common.{nat_tests, ◌≡◌, ℕ, zero, suc, ◌+◌, List, [], ◌∷◌, ◌++◌, Option, Some, None, arith, refl, IsPermutation, enumerate_from, set, none-some, IsPermutation-refl, IsPermutation-trans, IsPermutation-middle, IsPermutation-append_right}
use Rattle.starlark_table.specs.Table.{holders}
use Rattle.starlark_table.specs.Layout.{at}

module _ {T : Type 0} where
  -- if no slot holds the hash, no item is under it
  pub holders-none : (hash n : ℕ) (slots : List (Option (ℕ × T))) → ((q : ℕ) (x : T) → at slots q ≡ Some (hash, x) → ⊥)
      → holders hash (enumerate_from n slots) ≡ []
  holders-none hash n [] none = refl
  holders-none hash n (None ∷ slots) none = holders-none hash (n + 1) slots (λ q. none (suc q))
  holders-none hash n (Some (h, x) ∷ slots) none = grind (arith, nat_tests, none 0 x, holders-none hash (n + 1) slots (λ q. none (suc q)))

  pub holders-cons : (hash n : ℕ) (o : Option (ℕ × T)) (rest : List (ℕ × Option (ℕ × T))) → holders hash ((n, o) ∷ rest) ≡ holders hash ((n, o) ∷ []) ++ holders hash rest
  holders-cons hash n o rest = grind arith

  -- the item in the i-th slot, where slots are counted from n on
  pub holders-taken : (hash n i j : ℕ) (x : T) (slots : List (Option (ℕ × T))) → j ≡ n + i → at slots i ≡ Some (hash, x)
      → IsPermutation (holders hash (enumerate_from n slots)) ((j, x) ∷ holders hash (enumerate_from n (set slots i None)))
  holders-taken hash n i j x [] e here = absurd (none-some (hash, x) here)
  holders-taken hash n zero j x (o ∷ slots) e here =
      let taken : holders hash (enumerate_from n (o ∷ slots)) ≡ (j, x) ∷ holders hash (enumerate_from (n + 1) slots) = grind (arith, nat_tests) in
      rw taken (IsPermutation-refl _)
  holders-taken hash n (suc i) j x (o ∷ slots) e here =
      let front : List (ℕ × T) = holders hash ((n, o) ∷ []) in
      rw (holders-cons hash n o (enumerate_from (n + 1) slots), holders-cons hash n o (enumerate_from (n + 1) (set slots i None)))
      (IsPermutation-trans _ _ _ (IsPermutation-append_right front _ _ (holders-taken hash (n + 1) i j x slots (omega arith) here)) (IsPermutation-middle front (j, x) _))
