-- The mask of a list of hashes: a bit for each index, set if the list has this hash there.
use Rattle.starlark_hash.proofs.Common.{◌≡◌, ℕ, zero, ◌+◌, ◌-◌, ◌*◌, ◌/◌, ◌%◌, ◌^◌, ◌<◌, ◌≤◌, List, [], ◌∷◌, ◌++◌, length, take, drop, get_or, map, nat_eq, sym, arith, pow-suc, drop-drop, drop_more, length-drop, length-map, take-append-drop, take_all, length-chunk, mask_l, chunk}
use Rattle.std.proofs.Math.Nat.{add_comm}
use Rattle.std.proofs.Math.Pow.{pow_mono}
use Rattle.std.proofs.Math.Seq.{take-add}
use Rattle.std.proofs.lemmas.List.{length-take-le}
use Rattle.std.proofs.lemmas.Nat.{div-mul-add}
use Rattle.std.proofs.lemmas.Simd.{mask_l-lt}
use Rattle.std.specs.Int.{from_bool}

module _ (hash : ℕ) where
  abbrev pub mask : List ℕ → ℕ
  mask xs = mask_l (map (λ h. nat_eq h hash) xs)

  mask-append : (xs ys : List ℕ) → mask (xs ++ ys) ≡ mask xs + mask ys * 2 ^ length xs
  mask-append [] ys = omega arith
  mask-append (x ∷ xs) ys = rw (pow-suc 2 (length xs)) (omega (arith, mask-append xs ys))

  mask-take_lt : (xs : List ℕ) (n : ℕ) → n ≤ length xs → mask (take n xs) < 2 ^ n
  mask-take_lt xs n within = rw (length-map (take n xs) (λ h. nat_eq h hash), length-take-le n xs within) at (mask_l-lt (map (λ h. nat_eq h hash) (take n xs)))

  -- the mask of the first i + n indices, from that of the first i and that of the n further ones
  mask_more : (xs : List ℕ) (i n : ℕ) → i + n ≤ length xs → i + n ≤ 32 → (before next : ℕ) → before ≡ mask (take i xs) → next ≡ mask (chunk i n xs)
      → (before + next * 2 ^ i % 2 ^ 64 ≡ mask (take (i + n) xs)) × (before + next * 2 ^ i % 2 ^ 64 < 2 ^ 64)
  mask_more xs i n room short before next is are =
      let more : mask (take (i + n) xs) ≡ before + next * 2 ^ i = rw (take-add i n xs, mask-append (take i xs) (chunk i n xs), length-take-le i xs (omega arith), is, are) in
      let high : 2 ^ (i + n) ≤ 2 ^ 32 = pow_mono short in let low = mask-take_lt xs (i + n) room in (omega arith, omega arith)

  -- the mask of the first i + 1 indices, from that of the first i and the test at i
  pub mask_next : (xs : List ℕ) (i : ℕ) → i < length xs → i < 32 → (before one : ℕ) → before ≡ mask (take i xs) → one ≡ from_bool (nat_eq (get_or xs i 0) hash)
      → (before + one * 2 ^ i % 2 ^ 64 ≡ mask (take (i + 1) xs)) × (before + one * 2 ^ i % 2 ^ 64 < 2 ^ 64)
  mask_next xs i within short before one is told = mask_more xs i 1 (omega arith) (omega arith) before one is (rw (drop_more xs i 0 within, told) (grind arith))

  -- the mask of the list, from that of all but the last index and the test at the last
  pub mask_last : (xs : List ℕ) → 0 < length xs → length xs ≤ 32 → (before one : ℕ) → before ≡ mask (take (length xs - 1) xs) → one ≡ from_bool (nat_eq (get_or xs (length xs - 1) 0) hash)
      → (before + one * 2 ^ (length xs - 1) % 2 ^ 64 ≡ mask xs) × (before + one * 2 ^ (length xs - 1) % 2 ^ 64 < 2 ^ 64)
  mask_last xs some short before one is told = rw (take_all (length xs - 1 + 1) xs (omega arith)) at (mask_next xs (length xs - 1) (omega arith) (omega arith) before one is told)

  -- a mask shifted by n bits is the mask of the list without its first n items
  pub mask-drop : (xs : List ℕ) (n : ℕ) → n ≤ length xs → mask xs / 2 ^ n ≡ mask (drop n xs)
  mask-drop xs n within =
      let parts = rw (take-append-drop n xs, length-take-le n xs within) at (mask-append (take n xs) (drop n xs)) in
      rw (parts, add_comm (mask (take n xs)) (mask (drop n xs) * 2 ^ n)) (div-mul-add (mask (drop n xs)) (2 ^ n) (mask (take n xs)) (mask-take_lt xs n within))

  -- the mask of a list, from those of its first n and its last n indices, which may overlap
  pub mask_ends : (xs : List ℕ) (n last both : ℕ) → last + n ≡ length xs → last + both ≡ n → length xs ≤ 32 → (front back : ℕ) → front ≡ mask (chunk zero n xs) → back ≡ mask (chunk last n xs)
      → (front + back / 2 ^ both * 2 ^ n % 2 ^ 64 ≡ mask xs) × (front + back / 2 ^ both * 2 ^ n % 2 ^ 64 < 2 ^ 64)
  mask_ends xs n last both end shared short front back is are =
      let rest : drop both (chunk last n xs) ≡ chunk n (length xs - n) xs =
      rw (take_all n (drop last xs) (omega (arith, length-drop last xs)), drop-drop both last xs, shared) (sym (take_all (length xs - n) (drop n xs) (omega (arith, length-drop n xs)))) in
      let new : back / 2 ^ both ≡ mask (chunk n (length xs - n) xs) = rw (are, mask-drop (chunk last n xs) both (omega (arith, length-chunk last n xs (omega arith))), rest) in
      rw (take_all (n + (length xs - n)) xs (omega arith)) at (mask_more xs n (length xs - n) (omega arith) (omega arith) front (back / 2 ^ both) is new)
