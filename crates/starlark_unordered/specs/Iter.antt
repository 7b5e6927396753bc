-- Definitions for the iterators of a map.
use Rattle.std.specs.Prelude.{◌≡◌, ◌<◌, ℕ, Bool, List, length, slice_get, Option, Some, IfSome}
use Rattle.std.specs.Iterator.{UpTo, at_most}
use Rattle.std.specs.Iterator.SizeHint.{IsWithinCount}
use Rattle.starlark_unordered.specs.Lookup.{found}

module _ {K V : Type 0} where
  -- what a look-up finds is one of these values, and each of them is found at some key
  abbrev pub AreFound : (K → K → Bool) → List (K × V) → List V → Type 0
  AreFound eq ps values = ((key : K) → IfSome (found (eq key) ps) (λ v. (index : ℕ) × (index < length values) × (slice_get values index ≡ Some v)))
      × ((index : ℕ) → IfSome (slice_get values index) (λ v. (key : K) × (found (eq key) ps ≡ Some v)))

-- the size hint is exact for an iterator that has `many` items left
pub record HintsExactly (many : ℕ) (hint : ℕ × Option ℕ) : Type 0 where
  pub lower : IsWithinCount hint.0 (at_most many)
  pub upper : IfSome hint.1 (UpTo (at_most many))
  pub exact : hint ≡ (many, Some many)
