-- Bits that say which slots of a group pass a test, and the iteration over the full ones.
use Rattle.starlark_hash.proofs.Common.{◌≡◌, ◌≢◌, ℕ, zero, suc, ◌+◌, ◌-◌, ◌*◌, ◌/◌, ◌%◌, ◌<◌, ◌≤◌, List, Bool, true, false, cond, length, map, Option, Some, None, arith, get_or, sym, refl, ◌∙◌, drop-cons, bit_and, nat_tests, common_steps, nat_lt}
use Rattle.std.specs.Int.Bits.{and_step, and_self}
use Rattle.std.specs.Int.Count.{count_trailing_zeros}
use lib.Lanes.{chunk, mask_l}
use Rattle.starlark_table.specs.Layout.{at, bits_where, hash_tag_bits, left_from, padding, IsTagged, IsTaggedFrom, LeftInWindow}
use Rattle.starlark_table.proofs.FilledSlots.{filled-by_some}
use Rattle.starlark_table.proofs.SlotTags.{tag-below}

pub lowest : (b : Bool) (n : ℕ) → ((cond b 1 0 + 2 * n) % 2 ≡ cond b 1 0) × ((cond b 1 0 + 2 * n) / 2 ≡ n)
lowest b n = grind arith

-- two tests that agree on the slots give the same bits
bits_where-alike : (t u : ℕ → Bool) (from n : ℕ) → ((p : ℕ) → from ≤ p → p < from + n → t p ≡ u p) → bits_where t from n ≡ bits_where u from n
unfolding bits_where
bits_where-alike t u from zero alike = refl
bits_where-alike t u from (suc n) alike = grind (arith, alike from, bits_where-alike t u (suc from) n)

-- a slot that passes sets a bit
bits_where-some : (t : ℕ → Bool) (from n k : ℕ) → k < n → t (from + k) ≡ true → 0 < bits_where t from n
unfolding bits_where
bits_where-some t from zero k within here = absurd (omega arith)
bits_where-some t from (suc n) zero within here = grind arith
bits_where-some t from (suc n) (suc k) within here = grind (arith, bits_where-some t (suc from) n k)

-- the first slot that passes is k slots on
pub record FirstPassing (t : ℕ → Bool) (from n k : ℕ) : Type 0 where
  pub within : k < n
  pub there : t (from + k) ≡ true
  pub before : (p : ℕ) → from ≤ p → p < from + k → t p ≡ false

-- if a bit is set, the lowest is that of the first slot that passes
pub first_passing-by_bits : (t : ℕ → Bool) (from n w : ℕ) → n ≤ w → bits_where t from n ≢ 0
    → FirstPassing t from n (count_trailing_zeros w (bits_where t from n))
unfolding bits_where count_trailing_zeros
first_passing-by_bits t from zero w few some = absurd (some refl)
first_passing-by_bits t from (suc n) zero few some = absurd (omega arith)
first_passing-by_bits t from (suc n) (suc w) few some =
    grind (arith, lowest (t from) (bits_where t (suc from) n), first_passing-by_bits t (suc from) n w (omega arith))

-- if no bit is set, no slot passes
pub none_passing-by_bits : (t : ℕ → Bool) (from n : ℕ) → bits_where t from n ≡ 0 → (p : ℕ) → from ≤ p → p < from + n → t p ≡ false
none_passing-by_bits t from n none p low high = grind (arith, bits_where-some t from n (p - from))

-- the bits without the lowest one are those of the slots after the first that passes
bits_where-cleared : (t u : ℕ → Bool) (from n k : ℕ) → FirstPassing t from n k → ((p : ℕ) → from ≤ p → p ≤ from + k → u p ≡ false)
    → ((p : ℕ) → from + k < p → p < from + n → t p ≡ u p) → bit_and (bits_where t from n) (bits_where t from n - 1) ≡ bits_where u from n
unfolding bits_where
bits_where-cleared t u from zero k first past later = absurd (omega (arith, first.within))
bits_where-cleared t u from (suc n) zero first past later =
    grind (arith, first.there, and_step, and_self, past from, bits_where-alike t u (suc from) n)
bits_where-cleared t u from (suc n) (suc k) first past later =
    grind (arith, first.before from, and_step, bits_where-some t (suc from) n k, past from, bits_where-cleared t u (suc from) n k)

-- the bits are those of a vector comparison
pub bits_where-chunk : (passes : ℕ → Bool) (xs : List ℕ) (from n : ℕ) → from + n ≤ length xs
    → bits_where (λ p. passes (get_or xs p 0)) from n ≡ mask_l (map passes (chunk from n xs))
unfolding bits_where
bits_where-chunk passes xs from zero room = refl
bits_where-chunk passes xs from (suc n) room =
    grind (arith, bits_where-chunk passes xs (suc from) n, drop-cons xs from 0)

module _ {T : Type 0} where
  pub tagged_from-start : (tags : List ℕ) (slots : List (Option (ℕ × T))) → IsTagged tags slots → IsTaggedFrom 0 tags slots
  tagged_from-start tags slots t = grind arith

  -- tags that are right from one slot on are right from a later one on, if the slots there have not changed
  pub tagged_from-later : (start end : ℕ) (tags : List ℕ) (slots new : List (Option (ℕ × T))) → IsTaggedFrom start tags slots → start ≤ end
      → length new ≡ length slots → ((p : ℕ) → end ≤ p → at new p ≡ at slots p) → IsTaggedFrom end tags new
  tagged_from-later start end tags slots new t on same stay = grind arith

  pub window_opens : (tags : List ℕ) (slots : List (Option (ℕ × T))) (start end bits : ℕ) → IsTaggedFrom start tags slots → start < end
      → end ≤ start + 64 → end ≤ length tags → bits ≡ hash_tag_bits tags start (end - start) → LeftInWindow slots start end start bits
  unfolding left_from
  window_opens tags slots start end bits tagged on short within is =
      let its = bits_where-alike (λ p. nat_lt (get_or tags p 0) padding) (left_from slots start) start (end - start)
      (λ p low high. grind (arith, common_steps, nat_tests, tag-below)) in
      grind arith

  -- the slot of the lowest bit, and the state of the iteration past it
  pub record NextFull (slots : List (Option (ℕ × T))) (start end next bits k : ℕ) : Type 0 where
    pub ahead : next ≤ start + k
    pub within : start + k < end
    pub member : ℕ × T
    pub here : at slots (start + k) ≡ Some member
    pub passed : (p : ℕ) → next ≤ p → p < start + k → at slots p ≡ None
    pub on : LeftInWindow slots start end (start + k + 1) (bit_and bits (bits - 1))

  pub window_next : (slots : List (Option (ℕ × T))) (start end next bits k : ℕ) → LeftInWindow slots start end next bits → bits ≢ 0
      → k ≡ count_trailing_zeros 64 bits → NextFull slots start end next bits k
  unfolding left_from
  window_next slots start end next bits k w some is =
      let first : FirstPassing (left_from slots next) start (end - start) k =
      rw (is, w.its) (first_passing-by_bits (left_from slots next) start (end - start) 64 (omega arith) (λ none. some (w.its ∙ none))) in
      let cleared = bits_where-cleared (left_from slots next) (left_from slots (start + k + 1)) start (end - start) k first
      (λ p low high. grind (arith, nat_tests)) (λ p low high. grind (arith, nat_tests)) in
      let found = filled-by_some (at slots (start + k)) (grind (arith, nat_tests, first.there)) in
      record {
        ahead = grind (arith, nat_tests, first.there);
        within = omega (arith, first.within);
        member = found.0;
        here = found.1;
        passed = λ p low high. grind (arith, nat_tests, first.before p);
        on = grind (arith, nat_tests, first.there, first.within);
      }

  -- if no bit is left, no slot left in the group is full
  pub window_done : (slots : List (Option (ℕ × T))) (start end next bits : ℕ) → LeftInWindow slots start end next bits → bits ≡ 0
      → (p : ℕ) → next ≤ p → p < end → at slots p ≡ None
  unfolding left_from
  window_done slots start end next bits w none p low high =
      grind (arith, nat_tests, none_passing-by_bits (left_from slots next) start (end - start) (sym w.its ∙ none) p)

  -- before the first slot no group is open
  pub window_before_all : (slots : List (Option (ℕ × T))) → LeftInWindow slots 0 0 0 0
  unfolding bits_where
  window_before_all slots = grind arith

  -- lists that are alike behind the passed slots have the same bits
  pub window_alike : (slots new : List (Option (ℕ × T))) (start end next bits : ℕ) → LeftInWindow slots start end next bits
      → ((p : ℕ) → next ≤ p → at new p ≡ at slots p) → LeftInWindow new start end next bits
  unfolding left_from
  window_alike slots new start end next bits w alike =
      let its = bits_where-alike (left_from slots next) (left_from new next) start (end - start) (λ p low high. grind (arith, nat_tests, alike p)) in
      grind arith
