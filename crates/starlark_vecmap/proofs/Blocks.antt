-- The first index at which a list has a hash, found by the mask of its first block.
use Rattle.starlark_hash.proofs.Common.{◌≡◌, ◌≢◌, ℕ, zero, suc, ◌+◌, ◌/◌, ◌^◌, ◌<◌, ◌≤◌, not, List, [], ◌∷◌, ◌++◌, Some, None, length, drop, append-nil, arith, rules, ap, sym, ◌∙◌, nat_eq, nat_tests, drop-drop, length-drop, leading_from_mask_l, count_trailing_zeros, position_or_len, position, option_map}
use Rattle.std.proofs.lemmas.List.Folds.{prefix_len-append}
use Rattle.std.proofs.lemmas.Simd.{trailing_mask_l}
use Rattle.starlark_vecmap.proofs.Masks.{mask, mask-drop}

module _ (hash : ℕ) where
  abbrev pub first : List ℕ → ℕ
  first = position_or_len (λ h. nat_eq h hash)

  some_passes : (xs : List ℕ) → 0 < mask hash xs → first xs < length xs
  some_passes [] some = absurd (omega arith)
  some_passes (x ∷ xs) some = let later = some_passes xs in grind arith

  -- a search may begin at any index up to the first one
  pub first_from : (xs : List ℕ) (n : ℕ) → n ≤ first xs → n + first (drop n xs) ≡ first xs
  first_from xs zero before = omega arith
  first_from [] (suc n) before = absurd (omega (arith, before))
  first_from (x ∷ xs) (suc n) before = let later = first_from xs n in grind arith

  pub position_at : (xs : List ℕ) (n : ℕ) → n ≡ first xs → n < length xs → Some n ≡ position (λ h. nat_eq h hash) xs
  position_at xs n is less = search rules

  -- the list does not have the hash, if the search begins at most at its first index and the mask from there is 0
  pub nowhere_from : (xs : List ℕ) (start : ℕ) → start ≤ first xs → start ≤ length xs → mask hash (drop start xs) ≡ 0 → None ≡ position (λ h. nat_eq h hash) xs
  nowhere_from xs start before within none =
      let all : first xs ≡ length xs = omega (arith, first_from xs start before, length-drop start xs, leading_from_mask_l (λ h. nat_eq h hash) (drop start xs) none) in search rules

  module _ (block tail : List ℕ) (m : ℕ) (few : length block ≤ 64) (is : m ≡ mask hash block) where
    -- if no bit is set, the first index is behind the block
    pub past_block : m ≡ 0 → first (block ++ tail) ≡ length block + first tail
    past_block none = grind (arith, nat_tests, prefix_len-append (λ h. not (nat_eq h hash)) block tail, leading_from_mask_l (λ h. nat_eq h hash) block (sym is ∙ none))

    -- if a bit is set, the first index is that of the lowest one
    pub lowest : m ≢ 0 → (count_trailing_zeros 64 m ≡ first (block ++ tail)) × (count_trailing_zeros 64 m < length block)
    lowest some =
        let low : count_trailing_zeros 64 m ≡ first block = rw is (trailing_mask_l (λ h. nat_eq h hash) 64 block few (omega (arith, is))) in let passes = some_passes block (omega (arith, is)) in
        (grind (arith, nat_tests, low, prefix_len-append (λ h. not (nat_eq h hash)) block tail, passes), omega (arith, low, passes))

  -- the mask of what is left from i on has the next index, and without its lowest bits it is the mask of what is left
  -- behind that index
  module _ (xs : List ℕ) (i m : ℕ) (few : length xs ≤ 64) (within : i ≤ length xs) (is : m ≡ mask hash (drop i xs)) where
    pub next_nowhere : m ≡ 0 → option_map (λ s. i + s) (position (λ h. nat_eq h hash) (drop i xs)) ≡ None
    next_nowhere none = ap (option_map (λ s. i + s)) (sym (nowhere_from (drop i xs) 0 (omega arith) (omega arith) (sym is ∙ none)))

    pub next_index : m ≢ 0 → (i + count_trailing_zeros 64 m < length xs) × (option_map (λ s. i + s) (position (λ h. nat_eq h hash) (drop i xs)) ≡ Some (i + count_trailing_zeros 64 m))
        × (m / 2 ^ count_trailing_zeros 64 m / 2 ≡ mask hash (drop (i + count_trailing_zeros 64 m + 1) xs))
    next_index some =
        let n = count_trailing_zeros 64 m in let rest : List ℕ = drop i xs in let left = length-drop i xs in
        let low = rw append-nil at (lowest rest [] m (omega arith) is some) in
        let same : drop 1 (drop n rest) ≡ drop (i + n + 1) xs = grind (arith, drop-drop 1 n rest, drop-drop (n + 1) i xs) in (
          omega arith,
          ap (option_map (λ s. i + s)) (sym (position_at rest n low.0 low.1)),
          ap (λ k. k / 2 ^ n / 2) is ∙ ap (λ k. k / 2) (mask-drop hash rest n (omega arith)) ∙ mask-drop hash (drop n rest) 1 (omega (arith, length-drop n rest)) ∙ ap (mask hash) same,
        )
