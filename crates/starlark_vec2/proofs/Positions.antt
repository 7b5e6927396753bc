-- Lists of indices in sorted order, the items in that order, and a comparator of items as one of indices.
use Rattle.starlark_hash.proofs.Common.{◌≡◌, ℕ, suc, ◌+◌, ◌<◌, Bool, List, [], ◌∷◌, ◌++◌, map, length, get_or, slice_get, Option, Some, refl, sym, ap, subst, ◌∙◌, arith, Bor, Mut, Takes, Called, IsStrictWeakOrder, range_with_len, Contains, IsSortedBy, IsStableBy, deref_pair, is_lt, Ordering, map-id, get_or-range_with_len, length-range_with_len, IsPermutation-map, IsPermutation-refl, length_permutation, slice_get-get_or, slice_get_within, get_or_from_slice_get}
use Rattle.std.proofs.Common.{unwrap_or}
use Rattle.std.specs.Fn.{ComparesAs}
use Rattle.std.proofs.lemmas.Fn.{answers_by}
use Rattle.std.specs.List.Sorted.{IsPermutation}
use Rattle.std.proofs.lemmas.Simd.{map-map}
use Rattle.std.proofs.lemmas.List.FromFn.{map-range_with_len_more}
use Rattle.starlark_hash.specs.Sort.{sorted_by}
use Rattle.starlark_vec2.specs.Sort.{PairRef, ComparesPairs, CanCompare, ComparesPairsAs, option_lt, lt_at, PutsInOrder, ComparesOptions, ComparesAt}
use Rattle.starlark_hash.proofs.SortingLemmas.{sorted_by-unique}
use Rattle.starlark_vec2.proofs.MappedSort.{sorted_by-map}

module _ {X : Type 0} where
  -- the items are in the order if that holds at each index
  pub PutsInOrder-from_indices : (xs : List X) (order : List ℕ) (ys : List X) → length ys ≡ length order
      → ((k : ℕ) → k < length ys → get_or order k 0 < length xs) → ((k : ℕ) (d : X) → k < length ys → get_or ys k d ≡ get_or xs (get_or order k 0) d) → PutsInOrder xs order ys
  PutsInOrder-from_indices xs [] [] e within at = refl
  PutsInOrder-from_indices xs (i ∷ order) (y ∷ ys) e within at =
      let rest = PutsInOrder-from_indices xs order ys (omega arith) (λ k lt. within (suc k) (omega arith)) (λ k d lt. at (suc k) d (omega arith)) in
      cc (at 0 y (omega arith), slice_get-get_or xs i y (within 0 (omega arith)))
  PutsInOrder-from_indices xs order ys e within at = absurd (omega arith)

  map_slice_get-all : (xs : List X) → map Some xs ≡ map (slice_get xs) (range_with_len 0 (length xs))
  map_slice_get-all xs = PutsInOrder-from_indices xs (range_with_len 0 (length xs)) xs (grind (arith, length-range_with_len))
      (λ k lt. grind (arith, get_or-range_with_len)) (λ k d lt. grind (arith, get_or-range_with_len))

  same_somes : (xs ys : List X) → map Some xs ≡ map Some ys → xs ≡ ys
  same_somes [] [] e = refl
  same_somes (x ∷ xs) (y ∷ ys) e = cc (same_somes xs ys (cc))
  same_somes xs ys e = cc

  from_somes : (xs ys : List X) → IsPermutation (map Some xs) (map Some ys) → IsPermutation xs ys
  from_somes [] [] p = IsPermutation-refl []
  from_somes (x ∷ xs) ys p = rw (map-map (λ o. unwrap_or o x) Some (x ∷ xs), map-map (λ o. unwrap_or o x) Some ys, map-id (x ∷ xs), map-id ys) at (IsPermutation-map (λ o. unwrap_or o x) _ _ p)
  from_somes xs ys p = absurd (omega (arith, length_permutation _ _ p))

  -- items put in an order of all indices are a permutation
  pub IsPermutation-from_order : (xs : List X) (order : List ℕ) (ys : List X) → IsPermutation (range_with_len 0 (length xs)) order → PutsInOrder xs order ys → IsPermutation xs ys
  IsPermutation-from_order xs order ys p puts = from_somes xs ys (rw (map_slice_get-all xs, puts) (IsPermutation-map (slice_get xs) _ _ p))

  module _ (lt : X → X → Bool) (o : IsStrictWeakOrder lt) where
    pub lt_at-weak : (xs : List X) → IsStrictWeakOrder (lt_at lt xs)
    lt_at-weak xs = record { one_way = λ i j h. grind (arith, o.one_way); chain = λ i j k h h'. grind (arith, o.chain) }

    -- items put in a sorted order of their indices, in which ties ascend, are sorted
    pub sorted_by-from_order : (xs : List X) (order : List ℕ) (ys : List X) → IsSortedBy (lt_at lt xs) order × IsStableBy (lt_at lt xs) (range_with_len 0 (length xs)) order
        → PutsInOrder xs order ys → ys ≡ sorted_by lt xs
    sorted_by-from_order xs order ys (up, stable) puts =
        let all = range_with_len 0 (length xs) in
        same_somes ys (sorted_by lt xs) (
        puts ∙ ap (map (slice_get xs)) (sorted_by-unique (lt_at lt xs) (lt_at-weak xs) all order up stable) ∙ sym (sorted_by-map (option_lt lt) (slice_get xs) all)
        ∙ ap (sorted_by (option_lt lt)) (sym (map_slice_get-all xs)) ∙ sorted_by-map (option_lt lt) Some xs
        )

module _ {F G A B : Type 0} (g : Mut F (PairRef A B × (PairRef A B × Unit {0})) Ordering) (g' : Mut G (Bor ℕ × (Bor ℕ × Unit {0})) Ordering) (state : G → F) (pairs : G → List (A × B))
    (calls : (s : G) (i j : Bor ℕ) (r : Ordering) (t : G) → Called g' s (i, (j, tt)) r t → ComparesAt g (pairs s) (state s) i.now j.now r (state t) × (pairs t ≡ pairs s)) (lt : A × B → A × B → Bool) (ps : List (A × B)) where
  asked : (f : F) (x y : Option (A × B)) (r : Ordering) (f2 : F) → ComparesOptions g f x y r f2 → ComparesPairsAs g lt f → (is_lt r ≡ option_lt lt x y) × ComparesPairsAs g lt f2
  asked f (Some x) (Some y) r f2 k h =
      let a : PairRef A B × (PairRef A B × Unit {0}) = (k.left, (k.right, tt)) in
      ((h.at (a ∷ []) r f2 k.called).0 ∙ (λ j. lt (k.shows_left j) (k.shows_right j)), record { at = λ us. (h.at (a ∷ us) r f2 k.called).1 })
  asked f x y r f2 k h = (ap is_lt k.0, subst (ComparesPairsAs g lt) (sym k.1) h)

  pub compares_positions : (s : G) → pairs s ≡ ps → ComparesPairsAs g lt (state s) → ComparesAs g' (lt_at lt ps) s
  compares_positions s same h = answers_by g' _ (λ t. (pairs t ≡ ps) × ComparesPairsAs g lt (state t))
      (λ t a r u e held. let c = calls t a.0 a.1.0 r u e in
      let k = asked (state t) _ _ r (state u) (subst (λ l. ComparesAt g l (state t) a.0.now a.1.0.now r (state u)) held.0 c.0) held.1 in (k.0, (c.1 ∙ held.0, k.1))) s (same, h)

-- the item at an index is in the list
Contains-from_index : {X : Type 0} (xs : List X) (i : ℕ) (x : X) → Some x ≡ slice_get xs i → Contains xs x
Contains-from_index xs i x at = (i, slice_get_within xs i x (sym at), get_or_from_slice_get xs i x x (sym at))

module _ {F A B : Type 0} (g : Mut F (PairRef A B × (PairRef A B × Unit {0})) Ordering) (ps : List (A × B)) where
  -- the pairs at two indices may be compared
  pub takes_at : (f : F) (i j : ℕ) (p q : PairRef A B) → CanCompare g ps f → Some (deref_pair p) ≡ slice_get ps i → Some (deref_pair q) ≡ slice_get ps j → Takes g f (p, (q, tt))
  takes_at f i j p q can at at' = can.at [] f _ _ refl (Contains-from_index ps i _ at) (Contains-from_index ps j _ at') p q refl refl

  -- any two pairs may be compared after a comparison
  pub CanCompare-next : (f : F) (i j : ℕ) (r : Ordering) (f2 : F) → ComparesAt g ps f i j r f2 → CanCompare g ps f → CanCompare g ps f2
  CanCompare-next f i j r f2 = by (slice_get ps i) (slice_get ps j) refl refl
    where
      by : (x y : Option (A × B)) → x ≡ slice_get ps i → y ≡ slice_get ps j → ComparesOptions g f x y r f2 → CanCompare g ps f → CanCompare g ps f2
      by (Some x) (Some y) at at' c can =
          record { at = λ before later u v told. can.at ((x, y) ∷ before) later u v (f2, (Contains-from_index ps i x at, Contains-from_index ps j y at', r, c), told) }
      by x y at at' c can = subst (CanCompare g ps) (sym c.1) can

-- a call with the pairs at two indices compares these indices
pub compares_at : {F A B : Type 0} (g : Mut F (PairRef A B × (PairRef A B × Unit {0})) Ordering) (ps : List (A × B)) (f : F) (i j : ℕ) (x y : A × B) (r : Ordering) (f2 : F)
    → Some x ≡ slice_get ps i → Some y ≡ slice_get ps j → ComparesPairs g f x y r f2 → ComparesAt g ps f i j r f2
compares_at g ps f i j x y r f2 p q h = subst (λ t. t) (λ k. ComparesOptions g f (p k) (q k) r f2) h

-- one more index
pub range_with_len_more : (a n : ℕ) → range_with_len a (n + 1) ≡ range_with_len a n ++ (a + n) ∷ []
range_with_len_more a n = grind (arith, map-id, map-range_with_len_more (λ i. i) a n (a + n))

pub sorted_by-short : {X : Type 0} (lt : X → X → Bool) (xs : List X) → length xs < 2 → xs ≡ sorted_by lt xs
sorted_by-short lt (x ∷ y ∷ xs) h = absurd (omega arith)
sorted_by-short lt xs h = refl
