-- Items with their old indices, which are sorted together: how they are taken, and how the moves are read off.
use Rattle.starlark_hash.proofs.Common.{◌≡◌, ℕ, ◌+◌, ◌<◌, Bool, List, [], ◌∷◌, ◌++◌, map, length, get_or, slice_get, reverse, None, Some, refl, sym, ap, ◌∙◌, arith, append_assoc, get_or-set_other, range_with_len, enumerate_from, IsSortedBy, IsStableBy, IsStrictWeakOrder, cases_eq, get_or-set_same, length-map, get_or-map, get_or_default, reverse-append, get_or-range_with_len, length-range_with_len, length-enumerate_from, get_or-enumerate_from, IsPermutation-map, IsPermutation-sym, length_permutation, Contains-permutation, option_map, get_or_from_slice_get, slice_get-map}
use Rattle.std.proofs.Common.{set}
use Rattle.std.specs.List.Sorted.{IsPermutation}
use Rattle.std.proofs.lemmas.Simd.{map-map}
use Rattle.starlark_hash.specs.Sort.{sorted_by}
use Rattle.starlark_vec2.specs.Sort.{Moves, PutsInOrder}
use Rattle.starlark_hash.proofs.SortingLemmas.{sorted_by-unique}
use Rattle.starlark_vec2.proofs.MappedSort.{sorted_by-map}
use Rattle.starlark_vec2.proofs.InPlacePermutation.{Spread, Spread-from_permutation}
use Rattle.starlark_vec2.proofs.Positions.{PutsInOrder-from_indices, IsPermutation-from_order}

-- storing the move of the item at j keeps the moves that are stored
pub noted-more : (from to new : List ℕ) (n j index : ℕ) → Spread n from → length to ≡ n → j < length from → index ≡ get_or from j 0 → new ≡ set to index j
    → ((k : ℕ) → k < j → get_or to (get_or from k 0) 0 ≡ k) → (k : ℕ) → k < j + 1 → get_or new (get_or from k 0) 0 ≡ k
noted-more from to new n j index spread count below at is noted k lt = grind (arith, get_or-set_same, get_or-set_other, spread.below j, spread.apart k j, noted k, cases_eq k j)

-- once the moves of all items are stored, `to` has for each index of `from` where it is
pub noted-all : (from to : List ℕ) (n : ℕ) → Spread n from → length to ≡ n → length from ≡ n → ((k : ℕ) → k < n → get_or to (get_or from k 0) 0 ≡ k) → PutsInOrder to from (range_with_len 0 n)
noted-all from to n spread count total noted =
    PutsInOrder-from_indices to from (range_with_len 0 n) (length-range_with_len 0 n ∙ sym total) (λ k lt. grind (arith, length-range_with_len, spread.below))
    (λ k d lt. grind (arith, length-range_with_len, get_or-range_with_len, noted k, get_or_default to (get_or from k 0) 0 d, spread.below))

module _ {X : Type 0} where
  enumerate_from-push : (n : ℕ) (xs : List X) (x : X) → enumerate_from n (xs ++ x ∷ []) ≡ enumerate_from n xs ++ (n + length xs, x) ∷ []
  enumerate_from-push n [] x = grind arith
  enumerate_from-push n (y ∷ xs) x = grind (arith, enumerate_from-push (n + 1) xs x)

  -- the last pair is appended, with its index, to those that were taken from the end before
  pub numbered-taken : (ps rest : List X) (x : X) (taken all : List (ℕ × X)) (n : ℕ) → ps ≡ rest ++ x ∷ [] → n ≡ length rest → enumerate_from 0 ps ++ reverse taken ≡ all
      → enumerate_from 0 rest ++ reverse (taken ++ (n, x) ∷ []) ≡ all
  numbered-taken ps rest x taken all n is count held = grind (arith, enumerate_from-push 0 rest x, reverse-append taken ((n, x) ∷ []), append_assoc (enumerate_from 0 rest) ((n, x) ∷ []) (reverse taken))

  pub items-numbered : (n : ℕ) (xs : List X) → map (λ p. p.1) (enumerate_from n xs) ≡ xs
  items-numbered n [] = refl
  items-numbered n (x ∷ xs) = cc (items-numbered (n + 1) xs)

  cells-numbered : (n : ℕ) (xs : List X) → map (λ p. p.0) (enumerate_from n xs) ≡ range_with_len n (length xs)
  cells-numbered n [] = refl
  cells-numbered n (x ∷ xs) = cc (cells-numbered (n + 1) xs)

  -- the old indices of rearranged items are a permutation of all indices
  pub cells-rearranged : (xs : List X) (ys : List (ℕ × X)) (n : ℕ) → length xs ≡ n → IsPermutation (enumerate_from 0 xs) ys → IsPermutation (range_with_len 0 n) (map (λ p. p.0) ys)
  cells-rearranged xs ys n count p = rw (sym (cells-numbered 0 xs ∙ ap (range_with_len 0) count)) (IsPermutation-map (λ p. p.0) (enumerate_from 0 xs) ys p)

  -- the stored moves say where each item went
  pub Moves-noted : (xs : List X) (ys : List (ℕ × X)) (to : List ℕ) → IsPermutation (enumerate_from 0 xs) ys → PutsInOrder to (map (λ p. p.0) ys) (range_with_len 0 (length xs)) → length to ≡ length xs → Moves xs to (map (λ p. p.1) ys)
  Moves-noted xs ys to p puts count =
      let all = range_with_len 0 (length xs) in
      let total : length ys ≡ length xs = length_permutation (enumerate_from 0 xs) ys p ∙ length-enumerate_from 0 xs in
      let once = IsPermutation-sym to all (IsPermutation-from_order to (map (λ p. p.0) ys) all (cells-rearranged xs ys (length to) (sym count) p) puts) in
      -- the index at which an item is now
      let stands : (k : ℕ) (d : X) → k < length xs → (i : ℕ) × (i < length ys) × (get_or ys i (k, get_or xs k d) ≡ (k, get_or xs k d)) =
      λ k d lt. Contains-permutation (enumerate_from 0 xs) ys (k, get_or xs k d) p (k, grind (arith, length-enumerate_from), grind (arith, get_or-enumerate_from, get_or_default)) in
      -- the entry of `to` for an item is that index
      let named : (i k : ℕ) (x : X) → i < length ys → get_or ys i (k, x) ≡ (k, x) → get_or to k 0 ≡ i =
      λ i k x lt is. let stored = get_or-map (slice_get to) (map (λ p. p.0) ys) i 0 None in let one = get_or-map Some all i 0 None in
      grind (arith, get_or-map (λ p. p.0) ys i (k, x) 0, stored, one, get_or-range_with_len, length-range_with_len, length-map, total, puts, get_or_from_slice_get to k i 0) in
      record {
        once = rw (length-map, total) once;
        items = PutsInOrder-from_indices (map (λ p. p.1) ys) to xs (sym count) (λ k lt. omega (arith, (Spread-from_permutation (length xs) to once).below k (omega arith), length-map ys (λ p. p.1), total))
            (λ k d lt. let at = stands k d lt in cc (named at.0 k (get_or xs k d) at.1 at.2, get_or-map (λ p. p.1) ys at.0 (k, get_or xs k d) d at.1, at.2));
      }

  module _ (lt : X → X → Bool) (weak : IsStrictWeakOrder lt) where
    -- the order of items, whatever their indices
    abbrev pub numbered_lt : ℕ × X → ℕ × X → Bool
    numbered_lt d e = lt d.1 e.1

    pub numbered_lt-weak : IsStrictWeakOrder numbered_lt
    numbered_lt-weak = record { one_way = λ a b. weak.one_way a.1 b.1; chain = λ a b c. weak.chain a.1 b.1 c.1 }

    -- items that are sorted together with their indices are sorted
    pub sorted_by-numbered : (xs : List X) (ys : List (ℕ × X)) → IsSortedBy numbered_lt ys → IsStableBy numbered_lt (enumerate_from 0 xs) ys → map (λ p. p.1) ys ≡ sorted_by lt xs
    sorted_by-numbered xs ys up stable = cc (sorted_by-unique numbered_lt numbered_lt-weak (enumerate_from 0 xs) ys up stable, sorted_by-map lt (λ p. p.1) (enumerate_from 0 xs), items-numbered 0 xs)

module _ {X Y : Type 0} (f : X → Y) where
  -- a mapped list is moved as its items are
  pub Moves-map : (xs : List X) (to : List ℕ) (ys : List X) → Moves xs to ys → Moves (map f xs) to (map f ys)
  Moves-map xs to ys moves = record { once = rw length-map moves.once; items = cc (map-map Some f xs, map-map (option_map f) Some xs, moves.items, map-map (option_map f) (slice_get ys) to ∙ (λ i. map (λ k. sym (slice_get-map f ys k) i) to)) }
