-- The number of tags beside the slots.
use Rattle.starlark_hash.proofs.Common.{◌≡◌, ℕ, ◌+◌, ◌*◌, ◌^◌, ◌<◌, ◌≤◌, List, length, drop, Option, sym, ◌∙◌, subst, arith, nat_tests, cases_lt}
use Rattle.std.proofs.Math.Nat.{pow-le-pow_right}
use Rattle.std.specs.List.{refill}
use Rattle.std.proofs.lemmas.List.{take_at}
use Rattle.starlark_table.specs.Layout.{window, tag_count, AreDoubled, HasTags}

pub tag_count-some : (m : ℕ) → 0 < m → tag_count m ≡ m + window
tag_count-some m some = grind (arith, nat_tests)

-- a number eight times a power of two that is below 2 ^ 64 is at most half of it
doubled_half : (n k : ℕ) → n ≡ 8 * 2 ^ k → n < 2 ^ 64 → n ≤ 2 ^ 63
doubled_half n k is below =
    let most = λ (few : k ≤ 60). pow-le-pow_right {n = 2} (omega arith) few in
    let least = λ (many : 61 ≤ k). pow-le-pow_right {n = 2} (omega arith) many in
    grind (arith, cases_lt k 61, most, least)

module _ {T : Type 0} where
  pub long_tags : (tags : List ℕ) (slots : List (Option (ℕ × T))) → HasTags tags slots → 0 < length slots → length tags ≡ length slots + window
  long_tags tags slots sized some = sized ∙ tag_count-some (length slots) some

  pub tags_fit : (slots : List (Option (ℕ × T))) → AreDoubled slots → 0 < length slots → length slots < 2 ^ 64 → length slots + window < 2 ^ 64
  tags_fit slots doubled some below = omega (arith, doubled_half (length slots) (doubled some).0 (doubled some).1 below)

  pub doubled-alike : (old new : List (Option (ℕ × T))) → length new ≡ length old → AreDoubled old → AreDoubled new
  doubled-alike old new same doubled = subst (λ n. 0 < n → (k : ℕ) × (n ≡ 8 * 2 ^ k)) (sym same) doubled

-- writing over a whole list of bytes gives the new bytes
pub refilled : (old new : List ℕ) → length new ≡ length old → refill (length old) old new ≡ new
refilled old new same = take_at new (drop (length new) old) (length old) same
