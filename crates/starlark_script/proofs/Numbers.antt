-- Numbers in their only spelling.
use Rattle.starlark_hash.proofs.Common.{◌≡◌, ◌≢◌, ℕ, zero, suc, ◌<◌, ◌^◌, Bool, true, false, ℤ, List, ◌∷◌, length, get_or, drop, Result, Ok, Err, refl, sym, ap, ◌∙◌, arith, length-drop, lit<, IsTrue, IfSome, IfNone, ◌==◌, w64, drop_more, get_or-drop, nat_tests}
use Rattle.std.proofs.Common.{pos, negsuc}
use Rattle.std.specs.Prelude.{decimal, FitsSigned, neg_ℤ}
use Rattle.std.specs.Fmt.{signed_decimal}
use Rattle.std.specs.Int.{IsInRange}
use Rattle.std.specs.Result.{result_ok}
use Rattle.std.specs.Str.Parse.{AllDigits, digits_value, ParsesUnsigned, ParsesSigned}
use Rattle.std.proofs.lemmas.Str.Parse.{IsNumeralModel, numerals_by_value, tells_digits, digit_at, parse_plain, parse_signed_plain, parse_signed_minus}
use Rattle.std.proofs.lemmas.Fmt.{digits_decimal, decimal_nonempty, first_decimal, decimal_digit, decimal-digits_value, parse-decimal, parse-signed_decimal}
use Rattle.std.proofs.lemmas.Result.{OkIff-at_ok}
use lib.Signed.{mag}
use Rattle.starlark_script.specs.Numbers.{IsPlain, IsPlainSigned}

own : IsNumeralModel (AllDigits 10) (digits_value 10)
own = numerals_by_value (AllDigits 10) tells_digits

pub first-digit : (n : ℕ) → n < 2 ^ 64 → IsInRange 48 57 (get_or (decimal n) 0 0)
first-digit n small = digit_at (decimal n) 0 (digits_decimal own n small) (decimal_nonempty n small)

zero-alone : (n : ℕ) → n < 2 ^ 64 → get_or (decimal n) 0 0 ≡ 48 → length (decimal n) ≡ 1
zero-alone zero small e = ap length (decimal_digit 0 (lit< tt))
zero-alone (suc n) small e = absurd (let f = first_decimal (suc n) (omega arith) small in omega arith)

pub plain-decimal : (n : ℕ) → n < 2 ^ 64 → IsPlain (decimal n)
plain-decimal n small = let d = first-digit n small in record { no_plus = λ e. omega arith; zero_alone = zero-alone n small }

number-some : {E : Type 0} (bs : List ℕ) (r : Result ℕ E) (n : ℕ) → ParsesUnsigned 32 10 bs r → IsPlain bs → r ≡ Ok n → bs ≡ decimal n
number-some bs r n p plain e =
    let h = OkIff-at_ok r _ _ n (parse_plain own 32 bs r p plain.no_plus) e in
    let small : digits_value 10 bs < 2 ^ 64 = omega arith in
    sym (decimal-digits_value own bs h.0.0 h.0.1 plain.zero_alone small) ∙ ap decimal (sym h.1)

pub read-some : {E : Type 0} (bs : List ℕ) (r : Result ℕ E) → ParsesUnsigned 32 10 bs r → IsPlain bs → IfSome (result_ok r) (λ n. bs ≡ decimal n)
read-some {E} bs (Ok n) p plain = number-some {E = E} bs (Ok n) n p plain (let e : ◌≡◌ {A = Result ℕ E} (Ok n) (Ok n) = refl in e)
read-some bs (Err d) p plain = tt

pub read-none : {E : Type 0} (bs : List ℕ) (r : Result ℕ E) → ParsesUnsigned 32 10 bs r → IfNone (result_ok r) ((n : ℕ) → n < 2 ^ 32 → bs ≢ decimal n)
read-none bs (Ok n) p = tt
read-none {E} bs (Err d) p = λ n small e. let k : ◌≡◌ {A = Result ℕ E} (Err d) (Ok n) = parse-decimal 32 n bs (Err d) small (omega arith) e p in cc

pub plain-none : (bs : List ℕ) (b : Bool) → (IsPlain bs → IsTrue b) → b ≡ false → (n : ℕ) → n < 2 ^ 32 → bs ≢ decimal n
plain-none bs b says off n small e =
    let plain : IsPlain bs = rw e (plain-decimal n (omega arith)) in
    let yes = says plain in cc

-- the magnitude of a signed number of 64 bits is below 2^63
pub fits-mag : (z : ℤ) → FitsSigned w64 z → mag z < 2 ^ 63
fits-mag (pos n) h = omega arith
fits-mag (negsuc n) h = omega arith

pub plain-signed_decimal : (z : ℤ) → FitsSigned w64 z → IsPlainSigned (signed_decimal z)
plain-signed_decimal (pos n) h =
    let small : n < 2 ^ 64 = omega arith in
    let d = first-digit n small in
    record { no_minus_zero = λ e. absurd (omega arith); plain = record { no_plus = λ e. omega arith; zero_alone = zero-alone n small } }
plain-signed_decimal (negsuc n) h =
    let f = first_decimal (suc n) (omega arith) (omega arith) in
    record { no_minus_zero = λ e k. omega arith; plain = record { no_plus = λ e. omega arith; zero_alone = λ e. absurd (omega arith) } }

nonzero-text : (m : ℕ) (t : List ℕ) → decimal m ≡ t → get_or t 0 0 ≢ 48 → signed_decimal (neg_ℤ (pos m)) ≡ 45 ∷ t
nonzero-text zero t e h = absurd (h (ap (λ (x : List ℕ). get_or x 0 0) (sym e) ∙ ap (λ (x : List ℕ). get_or x 0 0) (decimal_digit 0 (lit< tt))))
nonzero-text (suc m) t e h = ap (λ (x : List ℕ). 45 ∷ x) e

signed-minus : {E : Type 0} (bs : List ℕ) (r : Result ℤ E) (z : ℤ) → ParsesSigned w64 10 bs r → IsPlainSigned bs → get_or bs 0 0 ≡ 45 → r ≡ Ok z → bs ≡ signed_decimal z
signed-minus bs r z p plain minus e =
    let h = OkIff-at_ok r _ _ z (parse_signed_minus own w64 bs r p minus) e in
    let size = length-drop 1 bs in
    let some : 0 < length bs = omega arith in
    let second : get_or (drop 1 bs) 0 0 ≡ get_or bs 1 0 = get_or-drop 1 bs 0 0 in
    let nonzero : get_or (drop 1 bs) 0 0 ≢ 48 = λ k. plain.no_minus_zero minus (sym second ∙ k) in
    let small : digits_value 10 (drop 1 bs) < 2 ^ 64 = omega arith in
    let text = decimal-digits_value own (drop 1 bs) h.0.0 h.0.1 (λ k. absurd (nonzero k)) small in
    let whole : bs ≡ 45 ∷ drop 1 bs = drop_more bs 0 0 some ∙ ap (λ (b : ℕ). b ∷ drop 1 bs) minus in
    whole ∙ sym (nonzero-text (digits_value 10 (drop 1 bs)) (drop 1 bs) text nonzero) ∙ ap signed_decimal (sym h.1)

signed-plain : {E : Type 0} (bs : List ℕ) (r : Result ℤ E) (z : ℤ) → ParsesSigned w64 10 bs r → IsPlainSigned bs → get_or bs 0 0 ≢ 45 → r ≡ Ok z → bs ≡ signed_decimal z
signed-plain bs r z p plain other e =
    let h = OkIff-at_ok r _ _ z (parse_signed_plain own w64 bs r p plain.plain.no_plus other) e in
    let small : digits_value 10 bs < 2 ^ 64 = omega arith in
    sym (decimal-digits_value own bs h.0.0 h.0.1 plain.plain.zero_alone small) ∙ ap signed_decimal (sym h.1)

is-minus : (b : ℕ) → (b == 45) ≡ true → b ≡ 45
is-minus b h = grind (arith, nat_tests)

not-minus : (b : ℕ) → (b == 45) ≡ false → b ≢ 45
not-minus b h = grind (arith, nat_tests)

signed-some : {E : Type 0} (bs : List ℕ) (r : Result ℤ E) (z : ℤ) → ParsesSigned w64 10 bs r → IsPlainSigned bs → r ≡ Ok z → bs ≡ signed_decimal z
signed-some bs r z p plain e = by (get_or bs 0 0 == 45) refl
  where
    by : (t : Bool) → (get_or bs 0 0 == 45) ≡ t → bs ≡ signed_decimal z
    by true k = signed-minus bs r z p plain (is-minus (get_or bs 0 0) k) e
    by false k = signed-plain bs r z p plain (not-minus (get_or bs 0 0) k) e

pub read-signed-some : {E : Type 0} (bs : List ℕ) (r : Result ℤ E) → ParsesSigned w64 10 bs r → IsPlainSigned bs → IfSome (result_ok r) (λ z. bs ≡ signed_decimal z)
read-signed-some {E} bs (Ok z) p plain = signed-some {E = E} bs (Ok z) z p plain (let e : ◌≡◌ {A = Result ℤ E} (Ok z) (Ok z) = refl in e)
read-signed-some bs (Err d) p plain = tt

pub read-signed-none : {E : Type 0} (bs : List ℕ) (r : Result ℤ E) → ParsesSigned w64 10 bs r → IfNone (result_ok r) ((z : ℤ) → FitsSigned w64 z → bs ≢ signed_decimal z)
read-signed-none bs (Ok z) p = tt
read-signed-none {E} bs (Err d) p = λ z fits e. let k : ◌≡◌ {A = Result ℤ E} (Err d) (Ok z) = parse-signed_decimal w64 z bs (Err d) fits (fits-mag z fits) e p in cc

pub plain-signed-none : (bs : List ℕ) (b : Bool) → (IsPlainSigned bs → IsTrue b) → b ≡ false → (z : ℤ) → FitsSigned w64 z → bs ≢ signed_decimal z
plain-signed-none bs b says off z fits e =
    let plain : IsPlainSigned bs = rw e (plain-signed_decimal z fits) in
    let yes = says plain in cc
