-- Lists that ascend between two indices.
use Rattle.starlark_hash.proofs.Common.{◌≡◌, ℕ, ◌+◌, ◌<◌, ◌≤◌, Bool, true, false, List, length, get_or, refl, sym, ◌∙◌, ap, inl, inr, arith, cases_lt, false≢true, get_or_default, MatchBool, ◌||◌, ◌==◌, not, IsSortedWithin, is_lt, Ordering, Less, Equal, Greater}
use Rattle.std.specs.Ordering.{ordering_index}

-- the test for `Less` that code makes
is_lt-index : (o : Ordering) → (ordering_index o == 0) ≡ is_lt o
is_lt-index Less = refl
is_lt-index Equal = refl
is_lt-index Greater = refl

-- the test for `Less` on two keys that are equal to two others
pub is_lt-told : {K : Type 0} (cmp : K → K → Ordering) (a b c d : K) (told : Bool) (o : Ordering)
    → told ≡ (ordering_index o == 0) → o ≡ cmp a b → a ≡ c → b ≡ d → told ≡ is_lt (cmp c d)
is_lt-told cmp a b c d told o test order one other = test ∙ is_lt-index o ∙ ap is_lt order ∙ (λ j. is_lt (cmp (one j) (other j)))

module _ {X : Type 0} (lt : X → X → Bool) (xs : List X) where
  -- a part of an ascending list ascends
  pub ascends-part : (low high from to : ℕ) → low ≤ from → to ≤ high → IsSortedWithin lt xs low high → IsSortedWithin lt xs from to
  ascends-part low high from to later earlier all k d above below = all k d (omega arith) (omega arith)

  -- a list ascends if two parts of it do that share an item
  pub ascends-joined : (low at high : ℕ) → IsSortedWithin lt xs low (at + 1) → IsSortedWithin lt xs at high → IsSortedWithin lt xs low high
  ascends-joined low at high front back k d above below =
      elim (cases_lt k at) [ inl h ↦ front k d above (omega arith) | inr h ↦ back k d h below ]

  -- if the front ascends, the whole does exactly if the last part does
  pub ascends-whole : (low at high : ℕ) (told : Bool) → low ≤ at → IsSortedWithin lt xs low (at + 1)
      → MatchBool told (IsSortedWithin lt xs at high) (IsSortedWithin lt xs at high → ⊥)
      → MatchBool told (IsSortedWithin lt xs low high) (IsSortedWithin lt xs low high → ⊥)
  ascends-whole low at high true above front back = ascends-joined low at high front back
  ascends-whole low at high false above front back = λ all. back (ascends-part low high at high above (omega arith) all)

  -- the answer of the loop, which has seen whether an item is less than the one before it
  pub ascends-told : (low from to : ℕ) (falls : Bool) → from ≡ to
      → MatchBool falls (IsSortedWithin lt xs low from → ⊥) (IsSortedWithin lt xs low from)
      → MatchBool (not falls) (IsSortedWithin lt xs low to) (IsSortedWithin lt xs low to → ⊥)
  ascends-told low from to true same told = λ all. told (ascends-part low to low from (omega arith) (omega arith) all)
  ascends-told low from to false same told = ascends-part low from low to (omega arith) (omega arith) told

  -- the item x is at an index of the list, and y at the next
  module _ (low at : ℕ) (x y : X) (within : at + 1 < length xs) (first : x ≡ get_or xs at x) (second : y ≡ get_or xs (at + 1) y) where
    shown : (k : ℕ) (d : X) → k ≡ at → lt (get_or xs (k + 1) d) (get_or xs k d) ≡ lt y x
    shown k d is = grind (arith, get_or_default xs (at + 1) d y within, get_or_default xs at d x)

    further : (to : ℕ) → to ≡ at + 2 → lt y x ≡ false → IsSortedWithin lt xs low (at + 1) → IsSortedWithin lt xs low to
    further to end rises all k d above below =
        elim (cases_lt k at) [ inl h ↦ all k d above (omega arith) | inr h ↦ shown k d (omega arith) ∙ rises ]

    falling : (to : ℕ) → to ≡ at + 2 → low ≤ at → lt y x ≡ true → IsSortedWithin lt xs low to → ⊥
    falling to end above falls all = false≢true (sym (all at x above (omega arith)) ∙ shown at x refl ∙ falls)

    -- one more step of the loop: whether y is less than x is added to what was seen before
    pub ascends-noted : (from to : ℕ) (falls next : Bool) → from ≡ at + 1 → to ≡ at + 2 → low ≤ at → next ≡ lt y x
        → MatchBool falls (IsSortedWithin lt xs low from → ⊥) (IsSortedWithin lt xs low from)
        → MatchBool (falls || next) (IsSortedWithin lt xs low to → ⊥) (IsSortedWithin lt xs low to)
    ascends-noted from to true next start end above is told = λ all. told (ascends-part low to low from (omega arith) (omega arith) all)
    ascends-noted from to false true start end above is told = falling to end above (sym is)
    ascends-noted from to false false start end above is told = further to end (sym is) (ascends-part low from low (at + 1) (omega arith) (omega arith) told)
