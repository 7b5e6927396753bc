-- The bytes in a window.
use Rattle.starlark_hash.proofs.Common.{◌≡◌, ◌≢◌, refl, ℕ, ◌+◌, ◌-◌, ◌≤◌, min, List, ◌++◌, length, take, drop, sym, ap, ◌∙◌, arith, length-take, length-drop, append_assoc, Option, Some, None, Keeps, prepend_known, drop-drop}
use Rattle.std.specs.Prelude.{slice_range}
use Rattle.std.specs.List.{copy_within}
use Rattle.std.specs.Io.KnownBytes.{Consumes}
use Rattle.starlark_script.specs.Found.{HasNoBreak, IsHeld, ShowsBreak}
use Rattle.starlark_script.specs.declared.window.Found.{Found}
use Rattle.starlark_script.specs.declared.window.Found.TheVariants.{End, Line, TooLong}
use Rattle.std.proofs.lemmas.List.Edits.{take-paste}
use Rattle.std.proofs.Math.Seq.{take-add}
use Rattle.std.proofs.lemmas.List.Elements.{All-drop}
use Rattle.std.proofs.lemmas.List.{drop-take, drop_min}

range-drop : (xs : List ℕ) (i j n : ℕ) → n ≤ j - i → slice_range xs (i + n) j ≡ drop n (slice_range xs i j)
range-drop xs i j n short =
    let m : ℕ = j - (i + n) in
    let all : j - i ≡ n + m = omega arith in
    ap (take m) (sym (drop-drop n i xs)) ∙ sym (drop-take n m (drop i xs)) ∙ ap (λ k. drop n (take k (drop i xs))) (sym all)

pub range-skip : (xs held : List ℕ) (i j n k : ℕ) → i ≤ j → j ≤ length xs → slice_range xs i j ≡ held → k ≡ min (j - i) n → slice_range xs (i + k) j ≡ drop n held
range-skip xs held i j n k o w e m =
    let size : length held ≡ j - i = omega (arith, length-take (j - i) (drop i xs), length-drop i xs, ap length e) in
    let cut : k ≡ min n (length held) = omega arith in
    range-drop xs i j k (omega arith) ∙ ap (drop k) e ∙ ap (λ a. drop a held) cut ∙ drop_min n held

-- bytes from a read are appended to those in the window
pub kept-read : (held bytes : List ℕ) (old new : Option (List ℕ)) → Consumes old new bytes → Keeps (prepend_known held old) (prepend_known (held ++ bytes) new)
kept-read held bytes None new h = tt
kept-read held bytes (Some xs) None h = h
kept-read held bytes (Some xs) (Some ys) h = append_assoc held bytes ys ∙ ap (λ zs. held ++ zs) (sym h)

-- the bytes in the window move to the front, and a read appends to them
pub refilled : (b0 b1 b2 held : List ℕ) (i j n : ℕ) (old new : Option (List ℕ)) → i ≤ j → j ≤ length b0 → slice_range b0 i j ≡ held → b1 ≡ copy_within b0 i j 0
    → take (j - i) b2 ≡ take (j - i) b1 → Consumes old new (slice_range b2 (j - i) (j - i + n))
    → Keeps (prepend_known held old) (prepend_known (slice_range b2 0 (j - i + n)) new)
refilled b0 b1 b2 held i j n old new o w v m f c =
    let k : ℕ = j - i in
    let long : k ≤ length (drop i b0) = omega (arith, length-drop i b0) in
    let zero : k ≡ 0 + k = omega arith in
    let front : take k b2 ≡ held = f ∙ ap (take k) m ∙ ap (λ a. take a (copy_within b0 i j 0)) zero ∙ take-paste b0 0 (drop i b0) k (omega arith) long ∙ v in
    let more : slice_range b2 k (k + n) ≡ take n (drop k b2) = ap (λ a. take a (drop k b2)) (omega arith) in
    let whole : slice_range b2 0 (k + n) ≡ held ++ take n (drop k b2) = ap (λ a. take a b2) (omega arith) ∙ take-add k n b2 ∙ ap (λ zs. zs ++ take n (drop k b2)) front in
    rw whole (kept-read held (take n (drop k b2)) old new (rw more at c))

pub held-from-break : (found : Found) (held : List ℕ) → ShowsBreak found held → IsHeld found held
held-from-break End held h = tt
held-from-break (Line n) held h = (omega arith, omega arith)
held-from-break TooLong held h = tt

-- few bytes without a line feed show no line
pub none-shown : (held : List ℕ) → length held ≤ 1000 → HasNoBreak held → (found : Found) → ShowsBreak found held → ⊥
none-shown held short whole End h = h
none-shown held short whole (Line n) h = (rw h.3 at (All-drop (λ b. b ≢ 10) n held whole)) 0 0 (omega arith) refl
none-shown held short whole TooLong h = omega arith
