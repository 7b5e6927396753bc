-- Items that are permuted in place: `order` has for each index that of the item that belongs there.
use Rattle.starlark_hash.proofs.Common.{◌≡◌, ℕ, zero, suc, ◌+◌, ◌<◌, ◌==◌, List, [], ◌∷◌, length, get_or, zip, refl, arith, get_or-set_other, if◌then◌else◌, swap, range_with_len, cases_eq, cases_lt, nat_tests, get_or_default, swapped_from_swap, swap_is, length-swap, get_or-range_with_len, length-range_with_len}
use Rattle.std.proofs.Common.{set}
use Rattle.std.specs.List.Sorted.{IsPermutation}
use Rattle.std.proofs.lemmas.List.{length-set, get_or_past}
use Rattle.std.proofs.lemmas.List.Sorted.{IsPermutation-keeps}
use Rattle.std.proofs.lemmas.Slice.Zip.{length-zip, get_or-zip}
use Rattle.starlark_vec2.specs.Sort.{PutsInOrder}
use Rattle.starlark_vec2.proofs.Pairs.{zip-set}
use Rattle.starlark_vec2.proofs.Positions.{PutsInOrder-from_indices}

-- each entry is below n, and no two are equal
pub record Spread (n : ℕ) (order : List ℕ) : Type 0 where
  pub below : (k : ℕ) → k < length order → get_or order k 0 < n
  pub apart : (i j : ℕ) → i < length order → j < length order → get_or order i 0 ≡ get_or order j 0 → i ≡ j

Spread-swap : (a b : ℕ) (order next : List ℕ) → a < length order → b < length order → next ≡ swap order a b → (n : ℕ) → Spread n order → Spread n next
Spread-swap a b order next left right e n s = record {
  below = λ k lt. grind (arith, swapped_from_swap order next a b 0, length-swap, s.below, cases_eq k a, cases_eq k b);
  apart = λ i j lt lt2 same. grind (arith, swapped_from_swap order next a b 0, length-swap, s.apart, cases_eq i a, cases_eq i b, cases_eq j a, cases_eq j b);
}

pub Spread-from_permutation : (n : ℕ) (order : List ℕ) → IsPermutation (range_with_len 0 n) order → Spread n order
Spread-from_permutation n order p = IsPermutation-keeps (range_with_len 0 n) (Spread n)
    (record { below = λ k lt. grind (arith, get_or-range_with_len, length-range_with_len); apart = λ i j lt lt2 e. grind (arith, get_or-range_with_len, length-range_with_len) }) (λ l i j lt lt2 s. Spread-swap i j l (swap l i j) lt lt2 refl n s) order p

-- how many indices from i on have an entry that is not their own index
pub misplaced : ℕ → List ℕ → ℕ
misplaced i [] = 0
misplaced i (x ∷ xs) = (if x == i then 0 else 1) + misplaced (suc i) xs

misplaced-set : (i : ℕ) (xs : List ℕ) (j v : ℕ) → j < length xs
    → misplaced i (set xs j v) + (if get_or xs j 0 == i + j then 0 else 1) ≡ misplaced i xs + (if v == i + j then 0 else 1)
unfolding misplaced
misplaced-set i [] j v lt = absurd (omega arith)
misplaced-set i (x ∷ xs) zero v lt = grind (arith, nat_tests)
misplaced-set i (x ∷ xs) (suc j) v lt = grind (arith, nat_tests, misplaced-set (suc i) xs j v)

-- one step: the entry of `index` is `from`, and that of `from` is `next`. The item at `next` is swapped with that at
-- `from`, and the two entries are swapped too
module _ (order order2 : List ℕ) (index from next n : ℕ) (s : Spread n order) (count : length order ≡ n) (lt : index < length order) (f : from ≡ get_or order index from)
    (h : next ≡ get_or order from next) (e : order2 ≡ swap order index from) (other : from ≡ index → ⊥) where
  told : (from < length order) × (next < length order) × (from ≡ get_or order index 0) × (next ≡ get_or order from 0) × (next ≡ from → ⊥)
  told = grind (arith, get_or_default, s.below, s.apart)

  pub fewer_misplaced : misplaced 0 order2 < misplaced 0 order
  fewer_misplaced =
      let mid = set order index next in
      grind (arith, nat_tests, told, swap_is order index from 0, misplaced-set 0 order index next, misplaced-set 0 mid from from, length-set, get_or-set_other order index from next 0)

  pub Spread_stays : Spread n order2
  Spread_stays = Spread-swap index from order order2 lt told.0 e n s

  pub placed_stay : ((k : ℕ) → k < index → get_or order k 0 ≡ k) → (k : ℕ) → k < index → get_or order2 k 0 ≡ k
  placed_stay placed k less = grind (arith, told, swapped_from_swap order order2 index from 0, placed, s.apart)

  module _ {X : Type 0} (ps : List X) (order1 : List ℕ) (qs qs2 : List X) (same : length qs ≡ n) (moved : qs2 ≡ swap qs from next) where
    -- after a step the item that belongs at each index is still at the index of its entry
    pub placing_step : ((k : ℕ) (d : X) → k < length order → get_or qs (get_or order k 0) d ≡ get_or ps (get_or order1 k 0) d)
        → (k : ℕ) (d : X) → k < length order2 → get_or qs2 (get_or order2 k 0) d ≡ get_or ps (get_or order1 k 0) d
    placing_step at k d less = grind (arith, told, swapped_from_swap order order2 index from 0, swapped_from_swap qs qs2 from next d, at, s.apart, length-swap, cases_eq k from, cases_eq k index)

module _ {A B : Type 0} where
  get_or-both : (xs : List A) (ys : List B) (i : ℕ) (x : A) (y : B) → length xs ≡ length ys → get_or (zip xs ys) i (x, y) ≡ (get_or xs i x, get_or ys i y)
  get_or-both xs ys i x y e = grind (arith, get_or-zip, get_or_past, length-zip, cases_lt i (length xs))

  -- the pairs after a swap in both columns
  pub zip-swap : (xs : List A) (ys : List B) (i j : ℕ) → length xs ≡ length ys → zip (swap xs i j) (swap ys i j) ≡ swap (zip xs ys) i j
  zip-swap (z ∷ xs) (w ∷ ys) i j e = grind (arith, zip-set, get_or-both)
  zip-swap xs ys i j e = grind arith

-- `ps` and `order1` are the items and the order at the beginning, `qs` and `order` those now. If each entry of `order` is now
-- its own index, the items are as `order1` asked.
pub PutsInOrder-from_placed : {X : Type 0} (ps : List X) (order1 : List ℕ) (qs : List X) (order : List ℕ) → length qs ≡ length order1 → length order ≡ length order1 → Spread (length ps) order1
    → ((k : ℕ) → k < length order → get_or order k 0 ≡ k) → ((k : ℕ) (d : X) → k < length order → get_or qs (get_or order k 0) d ≡ get_or ps (get_or order1 k 0) d) → PutsInOrder ps order1 qs
PutsInOrder-from_placed ps order1 qs order len count s placed at =
    PutsInOrder-from_indices ps order1 qs len (λ k lt. s.below k (omega arith)) (λ k d lt. grind (arith, placed k, at k d))
