-- Bits that say which of some slots have a given tag.
use Rattle.starlark_hash.proofs.Common.{nat_tests, ◌≡◌, ◌≢◌, ℕ, zero, suc, ◌+◌, ◌/◌, ◌%◌, ◌^◌, ◌<◌, ◌≤◌, List, length, get_or, map, arith, refl, ◌∙◌, pow-suc, count_trailing_zeros, nat_eq}
use Rattle.std.proofs.Math.Nat.{pow-succ', mod-one, div-div-eq-div-mul, one-le-pow}
use Rattle.std.proofs.Math.Arith.{mod-mul}
use lib.Lanes.{chunk, mask_l}
use Rattle.starlark_table.specs.Layout.{tag_bits, bits_where}
use Rattle.starlark_table.proofs.FullBits.{lowest, bits_where-chunk, first_passing-by_bits, none_passing-by_bits}

module _ (sought : ℕ) (tags : List ℕ) where
  -- the bits are those of a test
  by_test : (from n : ℕ) → tag_bits sought tags from n ≡ bits_where (λ p. nat_eq (get_or tags p 0) sought) from n
  unfolding tag_bits bits_where
  by_test from zero = refl
  by_test from (suc n) = cc (by_test (suc from) n)

  -- the bits are those of a vector comparison
  pub tag_bits-chunk : (from n : ℕ) → from + n ≤ length tags → tag_bits sought tags from n ≡ mask_l (map (λ t. nat_eq t sought) (chunk from n tags))
  tag_bits-chunk from n room = by_test from n ∙ bits_where-chunk (λ t. nat_eq t sought) tags from n room

  -- without the lowest k bits, the others are those of the slots from k further on
  pub tag_bits-later : (from k n to all : ℕ) → all ≡ k + n → to ≡ from + k → tag_bits sought tags from all / 2 ^ k ≡ tag_bits sought tags to n
  unfolding tag_bits
  tag_bits-later from zero n to all e f = grind arith
  tag_bits-later from (suc k) n to zero e f = absurd (omega arith)
  tag_bits-later from (suc k) n to (suc all) e f =
      let rest = tag_bits-later (suc from) k n to all (omega arith) (omega arith) in
      grind (arith, pow-succ' 2 k, div-div-eq-div-mul (tag_bits sought tags from (suc all)) 2 (2 ^ k), lowest)

  -- the lowest k bits are those of the first k slots
  pub tag_bits-front : (from k n all : ℕ) → all ≡ k + n → tag_bits sought tags from all % 2 ^ k ≡ tag_bits sought tags from k
  unfolding tag_bits
  tag_bits-front from zero n all e = grind (arith, mod-one)
  tag_bits-front from (suc k) n zero e = absurd (omega arith)
  tag_bits-front from (suc k) n (suc all) e =
      let halved = mod-mul (tag_bits sought tags from (suc all)) {m = 2 ^ k} {c = 2} (omega (arith, one-le-pow k 2 (omega arith))) (omega arith) in
      let rest = tag_bits-front (suc from) k n all (omega arith) in
      grind (arith, pow-suc 2 k, lowest (nat_eq (get_or tags from 0) sought) (tag_bits sought tags (suc from) all))

  -- the first of n slots with the tag is k slots on
  pub record FirstTagged (from n k : ℕ) : Type 0 where
    pub within : k < n
    pub there : get_or tags (from + k) 0 ≡ sought
    pub before : (p : ℕ) → from ≤ p → p < from + k → get_or tags p 0 ≢ sought

  module _ (from n bits : ℕ) (its : bits ≡ tag_bits sought tags from n) where
    -- if no bit is set, no slot has the tag
    pub none-by_bits : bits ≡ 0 → (p : ℕ) → from ≤ p → p < from + n → get_or tags p 0 ≢ sought
    none-by_bits none p low high =
        grind (arith, nat_tests, by_test from n, none_passing-by_bits (λ p. nat_eq (get_or tags p 0) sought) from n)

    -- if a bit is set, the lowest is that of the first slot with the tag
    pub first-by_bits : n ≤ 64 → bits ≢ 0 → FirstTagged from n (count_trailing_zeros 64 bits)
    first-by_bits few some =
        let first = first_passing-by_bits (λ p. nat_eq (get_or tags p 0) sought) from n 64 few (λ none. some (its ∙ by_test from n ∙ none)) in
        rw (its, by_test from n) (grind (arith, nat_tests))
