-- Bags of pairs of numbers: counted by tests, filtered, and with a common member cancelled.
use Rattle.starlark_hash.proofs.Common.{◌≡◌, ℕ, suc, ◌+◌, ◌<◌, List, [], ◌∷◌, Bool, true, false, ◌&&◌, nat_eq, length, get_or, remove, arith, refl, IsPermutation, sym, ◌∙◌, cond, IsPermutation-refl, IsPermutation-sym, IsPermutation-trans, IsPermutation-cons, sum_by-IsPermutation, nat_tests}
use Rattle.std.proofs.Common.{sum_by}
use Rattle.std.proofs.lemmas.List.Sorted.{IsPermutation-remove}
use Rattle.std.proofs.lemmas.List.Sums.{sum_by-cons}
use Rattle.std.specs.List.{filter}

abbrev same_pair : ℕ × ℕ → ℕ × ℕ → Bool
same_pair a b = nat_eq a.0 b.0 && nat_eq a.1 b.1

same_is : (a b : ℕ × ℕ) → same_pair a b ≡ true → a ≡ b
same_is (a, b) (c, d) e = grind (arith, nat_tests)

-- how many members pass a test
abbrev tally : (ℕ × ℕ → Bool) → List (ℕ × ℕ) → ℕ
tally p [] = 0
tally p (x ∷ xs) = cond (p x) 1 0 + tally p xs

tally-sum : (p : ℕ × ℕ → Bool) (xs : List (ℕ × ℕ)) → tally p xs ≡ sum_by (λ x. cond (p x) 1 0) xs
tally-sum p [] = refl
tally-sum p (x ∷ xs) = omega (arith, tally-sum p xs, sum_by-cons (λ z. cond (p z) 1 0) x xs)

tally-permutation : (p : ℕ × ℕ → Bool) (xs ys : List (ℕ × ℕ)) → IsPermutation xs ys → tally p ys ≡ tally p xs
tally-permutation p xs ys h = tally-sum p ys ∙ sum_by-IsPermutation (λ z. cond (p z) 1 0) xs ys h ∙ sym (tally-sum p xs)

-- a bag that counts the member has it at an index
found : (a : ℕ × ℕ) (ys : List (ℕ × ℕ)) → 0 < tally (same_pair a) ys → (i : ℕ) × (i < length ys) × (a ≡ get_or ys i a)
found a [] some = absurd (omega arith)
found a (y ∷ ys) some =
    (elim (same_pair a y) as (λ b. same_pair a y ≡ b → (i : ℕ) × (i < length (y ∷ ys)) × (a ≡ get_or (y ∷ ys) i a)) [
      | true ↦ λ e. (0, omega arith, same_is a y e)
      | false ↦ λ e. let later = found a ys (grind arith) in (suc later.0, omega (arith, later.1), later.2)
    ]) refl

-- lists in which each test counts the same number of members are one bag
permutation_from_counts : (xs ys : List (ℕ × ℕ)) → ((p : ℕ × ℕ → Bool) → tally p xs ≡ tally p ys) → IsPermutation xs ys
permutation_from_counts [] [] same = IsPermutation-refl []
permutation_from_counts [] (y ∷ ys) same = absurd (omega (arith, same (λ _. true)))
permutation_from_counts (x ∷ xs) ys same =
    let i = found x ys (grind (arith, nat_tests, same (same_pair x))) in
    let taken = IsPermutation-remove ys i.0 x i.1 i.2 in
    let rest = permutation_from_counts xs (remove ys i.0) (λ p. omega (arith, same p, tally-permutation p _ _ taken)) in
    IsPermutation-trans _ _ _ (IsPermutation-cons x _ _ rest) (IsPermutation-sym _ _ taken)

-- a common member can be cancelled on both sides
pub IsPermutation-cancel : (x : ℕ × ℕ) (xs ys : List (ℕ × ℕ)) → IsPermutation (x ∷ xs) (x ∷ ys) → IsPermutation xs ys
IsPermutation-cancel x xs ys h = permutation_from_counts xs ys (λ p. omega (arith, tally-permutation p (x ∷ xs) (x ∷ ys) h))

abbrev both : (ℕ × ℕ → Bool) → (ℕ × ℕ → Bool) → ℕ × ℕ → Bool
both p q x = q x && p x

tally-filter : (p q : ℕ × ℕ → Bool) (xs : List (ℕ × ℕ)) → tally p (filter q xs) ≡ tally (both p q) xs
tally-filter p q [] = refl
tally-filter p q (x ∷ xs) = grind (arith, tally-filter p q xs)

-- filtering two equal bags gives equal bags
pub IsPermutation-filter : (q : ℕ × ℕ → Bool) (xs ys : List (ℕ × ℕ)) → IsPermutation xs ys → IsPermutation (filter q xs) (filter q ys)
IsPermutation-filter q xs ys h =
    permutation_from_counts (filter q xs) (filter q ys) (λ p. tally-filter p q xs ∙ sym (tally-permutation (both p q) xs ys h) ∙ sym (tally-filter p q ys))
