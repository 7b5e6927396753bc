-- Maps and sets collected from an iterator's items.
use Rattle.std.specs.Prelude.{◌≡◌, ◌≤◌, ◌+◌, ℕ, Bool, List, [], ◌∷◌, Option, None, IsPermutation, max}
use Rattle.std.specs.Iterator.{Count, Drains}
use Rattle.std.specs.Iterator.Runs.{WholeRun}
use Rattle.std.specs.Iterator.SizeHint.{IsWithinCount}
use Rattle.std.specs.Map.{update_all}
use Rattle.std.specs.Set.{is_member}
use Rattle.starlark_table.specs.Growth.{most_for}
use Rattle.starlark_table.specs.Table.{Table, table_len}
use Rattle.starlark_unordered.specs.Lookup.{contains, get}
use Rattle.starlark_unordered.specs.Pairs.{pairs_of, with_pair}

module _ {K V : Type 0} (eq : K → K → Bool) where
  -- new is what inserting these pairs one after the other makes of old, in any order
  abbrev pub InsertsAll : List (K × V) → List (K × V) → List (K × V) → Type 0
  InsertsAll old [] new = new ≡ old
  InsertsAll old (p ∷ ps) new = (next : List (K × V)) × IsPermutation (with_pair eq p.0 p.1 old) next × InsertsAll next ps new

  module _ {T : Type 0} (steps : T → Option (K × V) → T → Type 0) where
    -- the map has the iterator's items, inserted into a map whose room was within the iterator's bounds; its own room is at
    -- most that first room or what the pairs make it grow to, whichever is greater
    abbrev pub IsCollected : {U : Type 0} → (U → T → Type 0) → (T → Count) → U → Table (K × V) → Type 0
    IsCollected becomes remaining iter m = (it : T) × (first : ℕ) × (xs : List (K × V)) × becomes iter it × IsWithinCount first (remaining it)
        × Drains steps it xs × InsertsAll [] xs (pairs_of m) × (first ≤ table_len m + m.room) × (table_len m + m.room ≤ most_for (max first (table_len m)))

    -- each key has the last value that the iterator's items have for it. The definition speaks of a run, like the standard
    -- library's clauses on iterators, so that callers' proofs find the items
    abbrev pub HasLast : {U : Type 0} → (U → T → Type 0) → U → Table (K × V) → Type 0
    HasLast becomes iter m = (it : T) × becomes iter it × WholeRun steps it (λ p. (key : K) → get eq m key ≡ update_all eq (λ _. None) p.items key)

  -- the set has each of the iterator's items, and nothing else
  abbrev pub HasEachItem : {S U : Type 0} → (S → Option K → S → Type 0) → (U → S → Type 0) → U → Table (K × V) → Type 0
  HasEachItem {S = S} steps becomes iter s = (it : S) × becomes iter it × WholeRun steps it (λ p. (element : K) → contains eq s element ≡ is_member eq p.items element)
