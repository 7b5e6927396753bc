-- The first line feed.
use Rattle.starlark_hash.proofs.Common.{◌≡◌, ◌≢◌, ℕ, ◌+◌, ◌<◌, ◌≤◌, min, List, ◌∷◌, length, take, drop, get_or, Option, Some, None, true, false, cond, sym, ap, ◌∙◌, arith, length-take, ◌==◌, position, not, position_or_len, drop_more, take_all, get_or-take, position-Some, nat_tests}
use Rattle.std.proofs.Common.{ltb}
use Rattle.std.proofs.lemmas.List.Sums.{prefix_len_passes}
use Rattle.std.proofs.lemmas.List.Elements.{All-from_get_or}
use Rattle.starlark_script.specs.Found.{HasNoBreak, ShowsBreak}
use Rattle.starlark_script.specs.declared.window.Found.TheVariants.{Line, TooLong}

pub not-ten : (b : ℕ) → (b == 10) ≡ false → b ≢ 10
not-ten b h = grind (arith, nat_tests)

pub is-ten : (b : ℕ) → (b == 10) ≡ true → b ≡ 10
is-ten b h = grind (arith, nat_tests)

-- a line feed among the first k bytes is the first of all bytes
pub shown-break : (xs : List ℕ) (k n : ℕ) → k ≡ min (length xs) 1001 → position (λ b. b == 10) (take k xs) ≡ Some n → ShowsBreak (Line n) xs
shown-break xs k n m e =
    let p = position-Some (λ b. b == 10) (take k xs) n 0 e in
    let size = length-take k xs in
    let long : n < length xs = omega arith in
    let front : n < k = omega arith in
    let here : get_or xs n 0 ≡ 10 = sym (get_or-take k xs n 0 front) ∙ is-ten (get_or (take k xs) n 0) p.1 in (
      omega arith,
      long,
      All-from_get_or (λ b. b ≢ 10) (take n xs) 0 (λ i h.
          let below : i < n = omega (arith, length-take n xs) in
          let within : i < k = omega arith in
          rw (get_or-take n xs i 0 below) (rw (← get_or-take k xs i 0 within) (not-ten (get_or (take k xs) i 0) (p.2 i below)))),
      drop_more xs n 0 long ∙ ap (λ (b : ℕ). b ∷ drop (n + 1) xs) here,
    )

past : (a b : ℕ) → ◌≡◌ {A = Option ℕ} (cond (ltb a b) (Some a) None) None → b ≤ a
past a b e = grind (arith, nat_tests)

not-ten-by : (b : ℕ) → not (b == 10) ≡ true → b ≢ 10
not-ten-by b h = grind (arith, nat_tests)

pub no-break : (xs : List ℕ) → position (λ b. b == 10) xs ≡ None → HasNoBreak xs
no-break xs e =
    let long = past (position_or_len (λ b. b == 10) xs) (length xs) e in
    All-from_get_or (λ b. b ≢ 10) xs 0 (λ i h.
    let below : i < position_or_len (λ b. b == 10) xs = omega arith in
    not-ten-by (get_or xs i 0) (prefix_len_passes (λ b. not (b == 10)) xs i 0 below))

pub shown-long : (xs : List ℕ) (k : ℕ) → k ≡ min (length xs) 1001 → position (λ b. b == 10) (take k xs) ≡ None → 1000 < length xs → ShowsBreak TooLong xs
shown-long xs k m e long =
    let all : k ≡ 1001 = omega arith in
    (long, rw all at (no-break (take k xs) e))

pub shown-none : (xs : List ℕ) (k : ℕ) → k ≡ min (length xs) 1001 → position (λ b. b == 10) (take k xs) ≡ None → length xs ≤ 1000 → HasNoBreak xs
shown-none xs k m e short =
    let all : length xs ≤ k = omega arith in
    rw (take_all k xs all) at (no-break (take k xs) e)
