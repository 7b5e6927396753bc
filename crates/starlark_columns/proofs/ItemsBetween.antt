-- Rows whose items are in a range of cells, before and after an item is removed at either end.
use Rattle.std.proofs.Common.{◌≡◌, ℕ, zero, suc, ◌+◌, ◌-◌, ◌<◌, ◌≤◌, true, false, List, [], ◌∷◌, ◌++◌, map, length, take, drop, replicate, get_or, slice_set, Option, Some, None, ap, ◌∙◌, arith, append_assoc, is_some}
use Rattle.std.proofs.lemmas.List.{length-append, length-take, length-drop, length-map, length-replicate, map-append, nil_from_length, replicate-append-replicate, replicate_more, get_or_at, set_at}
use lib.LanesLaws.{map-replicate}
use Rattle.starlark_columns.specs.Between.{IsBetween}
use Rattle.starlark_columns.proofs.ItemsAtFront.{empties, items_of, IsFilled, IsFront, row, items_row, shape_row, shape_is, split}

module _ {X : Type 0} where
  -- a row of a empty cells, the items xs, and m empty cells
  abbrev gap : ℕ → List X → ℕ → List (Option X)
  gap a xs m = empties a ++ row xs m

  items_gap : (a : ℕ) (xs : List X) (m : ℕ) → items_of (gap a xs m) ≡ xs
  items_gap zero xs m = items_row xs m
  items_gap (suc a) xs m = items_gap a xs m

  is_gap : (cs : List (Option X)) (a : ℕ) (xs : List X) (m to : ℕ) → cs ≡ gap a xs m → a + length xs ≡ to → IsBetween cs a to × (items_of cs ≡ xs)
  is_gap cs a xs m to e long = let items : items_of cs ≡ xs = rw e (items_gap a xs m) in let count : length cs ≡ to + m = rw e (simp (length-append, length-map, length-replicate) (omega arith)) in
      let n : to - a ≡ length xs = omega arith in let behind : length cs - to ≡ m = omega arith in
      (record { count = rw (items, n); form = rw (n, behind, e, map-append, map-replicate, shape_row xs m); order = omega arith; within = omega arith }, items)

  gap_is : (cs : List (Option X)) (a n m : ℕ) → map is_some cs ≡ replicate a false ++ (replicate n true ++ replicate m false) → (xs : List X) × (cs ≡ gap a xs m) × (length xs ≡ n)
  gap_is cs zero n m e = shape_is cs n m e
  gap_is (None ∷ cs) (suc a) n m e = let rest = gap_is cs a n m (cc e) in (rest.0, ap (λ l. None ∷ l) rest.1, rest.2)
  gap_is cs a n m e = absurd (cc e)

  -- items in the first n cells are in the cells from 0 up to n
  pub between_front : (cs : List (Option X)) (n : ℕ) → IsFront cs n → IsBetween cs 0 n
  between_front cs n front = let r = shape_is cs n (length cs - n) front.form in (is_gap cs 0 r.0 (length cs - n) n r.1 (omega (arith, r.2))).0

  -- if the range is empty, every cell is empty
  pub none_between : (cs : List (Option X)) (from to : ℕ) → IsBetween cs from to → to ≤ from → cs ≡ empties (length cs)
  none_between cs from to at le = let r = gap_is cs from (to - from) (length cs - to) at.form in
      let none : r.0 ≡ [] = nil_from_length r.0 (omega (arith, r.2)) in
      let e : cs ≡ empties (from + (length cs - to)) = r.1 ∙ ap (λ l. gap from l (length cs - to)) none ∙ replicate-append-replicate from (length cs - to) None in rw (e, length-replicate)

  module _ (cs : List (Option X)) (from to : ℕ) (at : IsBetween cs from to) (some : from < to) where
    abbrev left : ℕ
    left = length cs - to

    -- the first item, the items after it, and the row made of both
    firsts : (x : X) × (xs : List X) × (cs ≡ gap from (x ∷ xs) left) × (suc (from + length xs) ≡ to) × (get_or cs from None ≡ Some x)
    firsts = let r = gap_is cs from (to - from) left at.form in let h = split r.0 0 (omega (arith, r.2)) in let xs = drop 1 r.0 in let is = r.1 ∙ ap (λ l. gap from l left) h.1 in
        (h.0, xs, is, omega (arith, length-drop 1 r.0, r.2), ap (λ l. get_or l from None) is ∙ get_or_at (empties from) (Some h.0) (row xs left) None from (length-replicate from None))

    pub first_filled : IsFilled cs from
    first_filled = (firsts.0, firsts.4)

    pub first_taken : (ds : List (Option X)) (x : X) → ds ≡ slice_set cs from None → get_or cs from None ≡ Some x → IsBetween ds (from + 1) to × (items_of cs ≡ x ∷ items_of ds)
    first_taken ds x e f = let out = ap (λ l. slice_set l from None) firsts.2 ∙ set_at (empties from) (Some firsts.0) (row firsts.1 left) None from (length-replicate from None) in
        let is = is_gap ds (from + 1) firsts.1 left to (e ∙ out ∙ rw (← replicate_more {X = Option X} from None, append_assoc)) (omega (arith, firsts.3)) in
        (is.0, cc (firsts.2, items_gap from (firsts.0 ∷ firsts.1) left, is.1, firsts.4))

    module _ (last : ℕ) (end : last + 1 ≡ to) where
      -- the last item, the items before it, the row made of both, and the row without the last item
      lasts : (x : X) × (xs : List X) × (cs ≡ gap from (xs ++ x ∷ []) left) × (from + length xs ≡ last) × (get_or cs last None ≡ Some x) × (slice_set cs last None ≡ gap from xs (suc left))
      lasts = let r = gap_is cs from (to - from) left at.form in let n : ℕ = to - from - 1 in let h = split r.0 n (omega (arith, r.2)) in let xs = take n r.0 in
          let none : drop (suc n) r.0 ≡ [] = nil_from_length (drop (suc n) r.0) (omega (arith, length-drop (suc n) r.0, r.2)) in let count : from + length xs ≡ last = omega (arith, length-take n r.0, r.2) in
          let is = r.1 ∙ ap (λ l. gap from l left) (h.1 ∙ ap (λ l. xs ++ h.0 ∷ l) none) in let front = empties from ++ map Some xs in
          let parted : cs ≡ front ++ Some h.0 ∷ empties left = is ∙ simp (map-append, append_assoc) in let long : length front ≡ last = simp (length-append, length-map, length-replicate) count in
          let at : get_or cs last None ≡ Some h.0 = ap (λ l. get_or l last None) parted ∙ get_or_at front (Some h.0) (empties left) None last long in
          (h.0, xs, is, count, at, ap (λ l. slice_set l last None) parted ∙ set_at front (Some h.0) (empties left) None last long ∙ simp append_assoc)

      pub last_filled : IsFilled cs last
      last_filled = (lasts.0, lasts.4)

      pub last_taken_between : (ds : List (Option X)) (x : X) → ds ≡ slice_set cs last None → get_or cs last None ≡ Some x → IsBetween ds from last × (items_of cs ≡ items_of ds ++ x ∷ [])
      last_taken_between ds x e f = let is = is_gap ds from lasts.1 (suc left) last (e ∙ lasts.5) lasts.3 in (is.0, cc (lasts.2, items_gap from (lasts.1 ++ lasts.0 ∷ []) left, is.1, lasts.4))
