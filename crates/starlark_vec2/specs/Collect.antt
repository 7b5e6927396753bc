-- What an iterator's items make of a list of pairs.
use Rattle.std.specs.Prelude.{◌≡◌, ◌<◌, ◌-◌, ℕ, List, length, [], Option, MatchResult, Result}
use Rattle.std.specs.Iterator.{Count, Drains, Yields, size}
use Rattle.std.specs.Iterator.SizeHint.{IsWithinCount}
use Rattle.starlark_vec2.specs.PairList.{PairList, pair_list}
use Rattle.starlark_vec2.specs.Growth.{push_all, reserve}

module _ {T A B : Type 0} (steps : T → Option (A × B) → T → Type 0) where
  -- the iterator's items were appended: all of them, or, after a refusal, the first ones
  abbrev pub Pushes : {E : Type 0} → T → PairList A B → PairList A B → Result (Unit {0}) E → Type 0
  Pushes it old new r = (ps : List (A × B)) × (new ≡ push_all old ps) × MatchResult r (λ _. Drains steps it ps) (λ _. (rest : T) × Yields steps it ps rest)

module _ {U T A B : Type 0} (becomes : U → T → Type 0) (steps : T → Option (A × B) → T → Type 0) (remaining : T → Count) (iter : U) where
  -- room was reserved for a number of items within the iterator's bounds, and then its items were appended: all, or,
  -- after a refusal, the first ones
  abbrev pub Extends : {E : Type 0} → PairList A B → PairList A B → Result (Unit {0}) E → Type 0
  Extends old new r = (it : T) × (first : ℕ) × becomes iter it × IsWithinCount first (remaining it) × Pushes steps it (reserve old first) new r

  -- the list has all items of the iterator, appended to an empty list whose capacity was a number within the iterator's
  -- bounds
  abbrev pub Collects : PairList A B → Type 0
  Collects v = (it : T) × (first : ℕ) × (ps : List (A × B)) × becomes iter it × IsWithinCount first (remaining it)
      × (v ≡ push_all (pair_list [] first) ps) × Drains steps it ps

module _ {U T A B : Type 0} (becomes : U → T → Type 0) (remaining : T → Count) (iter : U) where
  -- the iterator may yield more items than there is room for without growth
  abbrev pub MayExceedRoom : PairList A B → Type 0
  MayExceedRoom v = (it : T) × becomes iter it × (v.capacity - length v.pairs < size (remaining it))
