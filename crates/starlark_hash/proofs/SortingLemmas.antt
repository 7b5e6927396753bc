-- Sorted lists: they ascend, keep the items and the order of ties, and are determined by that.
use Rattle.starlark_hash.proofs.Common.{length, length_permutation, ◌≡◌, zero, suc, Bool, false, List, [], ◌∷◌, refl, sym, ◌∙◌, arith, filter, IsPermutation, IsStrictWeakOrder, IsTotalOrder, IsSortedBy, IsStableBy, Ordering, cond_both, All-cons, All-head, All-tail, All-weaker, sorted_far, ranks_by, IsPermutation-refl, IsPermutation-cons, IsPermutation-trans, IsPermutation-middle, All-permutation}
use Rattle.std.specs.Prelude.{All}
use Rattle.std.specs.List.Sorted.{ties}
use Rattle.std.proofs.lemmas.Bool.{false_from_ne_true}
use Rattle.std.proofs.lemmas.Grind.{get_or_tail}
use Rattle.std.proofs.lemmas.List.Elements.{All-nil}
use Rattle.starlark_hash.specs.Entries.{entry_key}
use Rattle.starlark_hash.specs.Sort.{insert_sorted, sorted_by, key_lt}

filter-none : {X : Type 0} (p : X → Bool) (xs : List X) → All (λ x. p x ≡ false) xs → filter p xs ≡ []
filter-none p [] never = refl
filter-none p (x ∷ xs) never = rw (All-head (λ y. p y ≡ false) x xs never) (filter-none p xs (All-tail (λ y. p y ≡ false) x xs never))

module _ {X : Type 0} (lt : X → X → Bool) where
  -- no item is less than one before it
  abbrev Rises : List X → Type 0
  Rises [] = Unit {0}
  Rises (x ∷ xs) = All (λ y. lt y x ≡ false) xs × Rises xs

  Rises-to : (xs : List X) → Rises xs → IsSortedBy lt xs
  Rises-to [] rises k d low high = absurd (omega arith)
  Rises-to (x ∷ xs) rises zero d low high = rises.0 0 d (omega arith)
  Rises-to (x ∷ xs) rises (suc k) d low high = let later = Rises-to xs rises.1 k d (omega arith) (omega arith) in grind (arith, get_or_tail)

  -- an insertion only moves items
  IsPermutation-insert_sorted : (x : X) (xs : List X) → IsPermutation (x ∷ xs) (insert_sorted lt x xs)
  IsPermutation-insert_sorted x [] = IsPermutation-refl (x ∷ [])
  IsPermutation-insert_sorted x (y ∷ ys) =
      cond_both (lt y x) (y ∷ insert_sorted lt x ys) (x ∷ y ∷ ys) (IsPermutation (x ∷ y ∷ ys))
      (λ _. IsPermutation-trans (x ∷ y ∷ ys) (y ∷ x ∷ ys) (y ∷ insert_sorted lt x ys) (IsPermutation-middle (x ∷ []) y ys)
      (IsPermutation-cons y (x ∷ ys) (insert_sorted lt x ys) (IsPermutation-insert_sorted x ys))) (λ _. IsPermutation-refl (x ∷ y ∷ ys))

  -- sorting only moves items
  pub IsPermutation-sorted_by : (xs : List X) → IsPermutation xs (sorted_by lt xs)
  IsPermutation-sorted_by [] = IsPermutation-refl []
  IsPermutation-sorted_by (x ∷ xs) =
      IsPermutation-trans (x ∷ xs) (x ∷ sorted_by lt xs) (insert_sorted lt x (sorted_by lt xs))
      (IsPermutation-cons x xs (sorted_by lt xs) (IsPermutation-sorted_by xs)) (IsPermutation-insert_sorted x (sorted_by lt xs))

  pub length-sorted_by : (xs : List X) → length (sorted_by lt xs) ≡ length xs
  length-sorted_by xs = length_permutation xs (sorted_by lt xs) (IsPermutation-sorted_by xs)

  module _ (order : IsStrictWeakOrder lt) where
    irrefl : (x : X) → lt x x ≡ false
    irrefl x = grind (arith, order.one_way)

    Rises-from : (xs : List X) → IsSortedBy lt xs → Rises xs
    Rises-from [] up = tt
    Rises-from (x ∷ xs) up = (
      λ k d below. sorted_far lt order (x ∷ xs) up 0 (suc k) d (omega arith) (omega arith),
      Rises-from xs (λ k d low high. let later = up (suc k) d (omega arith) (omega arith) in grind (arith, get_or_tail)),
    )

    -- the first of one list is not above the first of the other
    not_above : (y z : X) (ys zs : List X) → Rises (y ∷ ys) → filter (ties lt z) (y ∷ ys) ≡ filter (ties lt z) (z ∷ zs) → lt z y ≡ false
    not_above y z ys zs rises same = false_from_ne_true (lt z y) (λ below.
        let never : All (λ w. ties lt z w ≡ false) (y ∷ ys) =
        All-weaker (λ w. lt w y ≡ false) (λ w. ties lt z w ≡ false) (λ w up. let far = order.chain z w y in grind arith)
        (y ∷ ys) (All-cons (λ w. lt w y ≡ false) y ys (irrefl y) rises.0) in
        let none = filter-none (ties lt z) (y ∷ ys) never in
        grind (arith, irrefl z))

    -- two ascending lists with the same items in each class of ties are equal
    unique : (ys zs : List X) → Rises ys → Rises zs → ((x : X) → filter (ties lt x) ys ≡ filter (ties lt x) zs) → ys ≡ zs
    unique [] [] up over same = refl
    unique [] (z ∷ zs) up over same = grind (arith, irrefl z, same z)
    unique (y ∷ ys) [] up over same = grind (arith, irrefl y, same y)
    unique (y ∷ ys) (z ∷ zs) up over same =
        let low = not_above y z ys zs up (same z) in
        let high = not_above z y zs ys over (sym (same y)) in
        let head : y ≡ z = grind (arith, irrefl y, same y) in
        let tails = unique ys zs up.1 over.1 (λ x. grind (arith, same x)) in
        cc

    Rises-insert_sorted : (x : X) (xs : List X) → Rises xs → Rises (insert_sorted lt x xs)
    Rises-insert_sorted x [] rises = (All-nil (λ y. lt y x ≡ false), tt)
    Rises-insert_sorted x (y ∷ ys) rises =
        cond_both (lt y x) (y ∷ insert_sorted lt x ys) (x ∷ y ∷ ys) Rises
        (λ less. (
          All-permutation (λ w. lt w y ≡ false) (x ∷ ys) (insert_sorted lt x ys) (IsPermutation-insert_sorted x ys)
              (All-cons (λ w. lt w y ≡ false) x ys (order.one_way y x less) rises.0),
          Rises-insert_sorted x ys rises.1,
        ))
        (λ not_less. (
          All-cons (λ w. lt w x ≡ false) y ys not_less
              (All-weaker (λ w. lt w y ≡ false) (λ w. lt w x ≡ false) (λ w up. order.chain w y x up not_less) ys rises.0),
          rises,
        ))

    Rises-sorted_by : (xs : List X) → Rises (sorted_by lt xs)
    Rises-sorted_by [] = tt
    Rises-sorted_by (x ∷ xs) = Rises-insert_sorted x (sorted_by lt xs) (Rises-sorted_by xs)

    insert_sorted-stable : (x : X) (xs : List X) → IsStableBy lt (x ∷ xs) (insert_sorted lt x xs)
    insert_sorted-stable x [] t = refl
    insert_sorted-stable x (y ∷ ys) t = let later = insert_sorted-stable x ys t in let far = order.chain y t x in grind arith

    -- a sorted list ascends, and ties keep their order
    pub sorted_by-sorted : (xs : List X) → IsSortedBy lt (sorted_by lt xs)
    sorted_by-sorted xs = Rises-to (sorted_by lt xs) (Rises-sorted_by xs)

    pub sorted_by-stable : (xs : List X) → IsStableBy lt xs (sorted_by lt xs)
    sorted_by-stable [] t = refl
    sorted_by-stable (x ∷ xs) t = rw (insert_sorted-stable x (sorted_by lt xs) t, sorted_by-stable xs t)

    -- an ascending list in which ties are ordered as in xs is xs sorted
    pub sorted_by-unique : (xs ys : List X) → IsSortedBy lt ys → IsStableBy lt xs ys → ys ≡ sorted_by lt xs
    sorted_by-unique xs ys up stable = unique ys (sorted_by lt xs) (Rises-from ys up) (Rises-sorted_by xs) (λ x. stable x ∙ sym (sorted_by-stable xs x))

    -- sorting an ascending list changes nothing
    pub sorted_by-fixed : (xs : List X) → IsSortedBy lt xs → sorted_by lt xs ≡ xs
    sorted_by-fixed xs up = sym (sorted_by-unique xs xs up (λ _. refl))

    -- sorting twice gives what sorting once gives
    pub sorted_by-twice : (xs : List X) → sorted_by lt (sorted_by lt xs) ≡ sorted_by lt xs
    sorted_by-twice xs = sorted_by-fixed (sorted_by lt xs) (sorted_by-sorted xs)

module _ {K V : Type 0} {cmp : K → K → Ordering} (total : IsTotalOrder cmp) where
  -- the order of entries by their keys is a strict weak order
  pub key_lt-order : IsStrictWeakOrder (key_lt {K = K} {V = V} cmp)
  key_lt-order = ranks_by total entry_key
