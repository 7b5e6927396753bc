-- Comparators of pairs, the list that a sort leaves, and where its items went. `Moves`, `Sorts` and what they are made
-- of are for public contracts; the definitions about positions are for `sort_by` alone.
use Rattle.std.specs.Prelude.{◌≡◌, ℕ, List, Some, map, length, slice_get, IsPermutation, Bool, Contains, true, false, Option, None}
use Rattle.std.specs.List.{range_with_len, FoldsTo}
use Rattle.std.specs.Borrow.{Bor}
use Rattle.std.specs.Fn.{Mut, Takes, Called, AlwaysReturns, ComparesAs}
use Rattle.std.specs.Cmp.{IsStrictWeakOrder}
use Rattle.std.specs.Ordering.{is_lt}
use Rattle.std.specs.Map.Iter.{deref_pair}
use Rattle.std.specs.declared.cmp.Ordering.{Ordering}
use Rattle.starlark_hash.specs.Sort.{sorted_by}
use Rattle.std.specs.List.Sorted.{IsSortedBy, IsStableBy}
use Rattle.std.specs.declared.cmp.Ordering.TheVariants.{Less, Equal}

module _ {X : Type 0} where
  -- `to` has for each index of xs the index of its item in ys, and names each index of ys once
  pub record Moves (xs : List X) (to : List ℕ) (ys : List X) : Type 0 where
    pub once : IsPermutation (range_with_len 0 (length ys)) to
    pub items : map Some xs ≡ map (slice_get ys) to

-- references to both parts of a pair
abbrev pub PairRef : Type 0 → Type 0 → Type 0
PairRef A B = Bor A × Bor B

module _ {F A B : Type 0} (g : Mut F (PairRef A B × (PairRef A B × Unit {0})) Ordering) where
  -- f may be called with references to x and y
  abbrev pub TakesPairs : F → A × B → A × B → Type 0
  TakesPairs f x y = (p q : PairRef A B) → deref_pair p ≡ x → deref_pair q ≡ y → Takes g f (p, (q, tt))

  -- a call of f with references to x and y may return r, and leave the closure as f2
  pub record ComparesPairs (f : F) (x y : A × B) (r : Ordering) (f2 : F) : Type 0 where
    pub left : PairRef A B
    pub right : PairRef A B
    pub shows_left : deref_pair left ≡ x
    pub shows_right : deref_pair right ≡ y
    pub called : Called g f (left, (right, tt)) r f2

  -- a call of f with references to two pairs of ps may leave the closure as f2
  abbrev pub ComparesTwoOf : List (A × B) → F → (A × B) × (A × B) → F → Type 0
  ComparesTwoOf ps f two f2 = Contains ps two.0 × Contains ps two.1 × (r : Ordering) × ComparesPairs f two.0 two.1 r f2

  -- f may be called with any two pairs of ps, in each state that such calls may leave
  pub record CanCompare (ps : List (A × B)) (f : F) : Type 0 where
    pub at : (before : List ((A × B) × (A × B))) (later : F) (x y : A × B) → FoldsTo (ComparesTwoOf ps) f before later → Contains ps x → Contains ps y → TakesPairs later x y

  -- f compares by the one order lt: each call, from the state f on, with references to two pairs, returns `Less`
  -- exactly if lt holds of them
  abbrev pub ComparesPairsAs : (A × B → A × B → Bool) → F → Type 0
  ComparesPairsAs lt = AlwaysReturns g (λ a r. is_lt r ≡ lt (deref_pair a.0) (deref_pair a.1.0))

  -- if f compares by a strict weak order of all pairs, qs is ps sorted by it, in which ties keep their order
  abbrev pub Sorts : F → List (A × B) → List (A × B) → Type 0
  Sorts f ps qs = (lt : A × B → A × B → Bool) → IsStrictWeakOrder lt → ComparesPairsAs lt f → qs ≡ sorted_by lt ps

module _ {F X : Type 0} (g : Mut F (Bor X × (Bor X × Unit {0})) Ordering) where
  -- if f compares by a strict weak order of all items, ys is xs sorted by it, in which ties keep their order
  abbrev pub SortsItems : F → List X → List X → Type 0
  SortsItems f xs ys = (lt : X → X → Bool) → IsStrictWeakOrder lt → ComparesAs g lt f → ys ≡ sorted_by lt xs

module _ {F X : Type 0} (g : Mut F (Bor (ℕ × X) × (Bor (ℕ × X) × Unit {0})) Ordering) where
  -- if f compares by a strict weak order of all items, and not by the numbers before them, ys is xs sorted by it
  abbrev pub SortsNumbered : F → List X → List X → Type 0
  SortsNumbered f xs ys = (lt : X → X → Bool) → IsStrictWeakOrder lt → ComparesAs g (λ d e. lt d.1 e.1) f → ys ≡ sorted_by lt xs

-- the order lt, in which `None` is sorted behind all items
abbrev pub option_lt : {X : Type 0} → (X → X → Bool) → Option X → Option X → Bool
option_lt lt (Some x) (Some y) = lt x y
option_lt lt (Some x) None = true
option_lt lt None o = false

-- the order lt of the items at two indices
abbrev pub lt_at : {X : Type 0} → (X → X → Bool) → List X → ℕ → ℕ → Bool
lt_at lt xs i j = option_lt lt (slice_get xs i) (slice_get xs j)

-- ys has at each index i the item that xs has at the index `order[i]`
abbrev pub PutsInOrder : {X : Type 0} → List X → List ℕ → List X → Type 0
PutsInOrder xs order ys = map Some ys ≡ map (slice_get xs) order

module _ {F A B : Type 0} (g : Mut F (PairRef A B × (PairRef A B × Unit {0})) Ordering) where
  -- a call of f compares the two pairs if both are there; `None` is sorted behind all pairs
  abbrev pub ComparesOptions : F → Option (A × B) → Option (A × B) → Ordering → F → Type 0
  ComparesOptions f (Some x) (Some y) r f2 = ComparesPairs g f x y r f2
  ComparesOptions f (Some x) None r f2 = (r ≡ Less) × (f2 ≡ f)
  ComparesOptions f None o r f2 = (r ≡ Equal) × (f2 ≡ f)

  -- a call of f compares the pairs at two indices
  abbrev pub ComparesAt : List (A × B) → F → ℕ → ℕ → Ordering → F → Type 0
  ComparesAt ps f i j r f2 = ComparesOptions f (slice_get ps i) (slice_get ps j) r f2

  -- `order` has the indices of ps in ascending order of their pairs, ties in ascending order of indices, if f compares
  -- by a strict weak order of all pairs
  abbrev pub SortsPositions : F → List (A × B) → List ℕ → Type 0
  SortsPositions f ps order = (lt : A × B → A × B → Bool) → IsStrictWeakOrder lt → ComparesPairsAs g lt f
      → IsSortedBy (lt_at lt ps) order × IsStableBy (lt_at lt ps) (range_with_len 0 (length ps)) order
