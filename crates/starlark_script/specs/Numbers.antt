-- Spellings of numbers.
use Rattle.std.specs.Prelude.{◌≡◌, ◌≢◌, ℕ, List, length, slice_index}

-- a spelling without a plus and without a zero before another digit
pub record IsPlain (text : List ℕ) : Type 0 where
  pub no_plus : slice_index text 0 ≢ 43
  pub zero_alone : slice_index text 0 ≡ 48 → length text ≡ 1

-- a spelling without a plus, without a zero before another digit, and without a zero behind a minus
pub record IsPlainSigned (text : List ℕ) : Type 0 where
  pub no_minus_zero : slice_index text 0 ≡ 45 → slice_index text 1 ≢ 48
  pub plain : IsPlain text
