-- Lists of entries with ascending keys, and maps that have such lists.
use Rattle.std.specs.Prelude.{◌≡◌, Bool, false, List, [], ◌∷◌, Option, All, AllPairs, ⊤}
use Rattle.std.specs.Iterator.{Count}
use Rattle.std.specs.Ordering.{is_gt}
use Rattle.std.specs.declared.cmp.Ordering.{Ordering}
use Rattle.std.specs.declared.cmp.Ordering.TheVariants.{Less}
use Rattle.starlark_hash.specs.Entries.{Entry, entry_key}
use Rattle.starlark_hash.specs.Sort.{sorted_by_key}
use Rattle.starlark_small.specs.Collect.{Collects}
use Rattle.starlark_small.specs.Map.{KeepsMemory, Map}

-- no item of the list is greater than a later one
abbrev pub AscendsAlong : {X : Type 0} → (X → X → Ordering) → List X → Type 0
AscendsAlong cmp [] = ⊤
AscendsAlong cmp (x ∷ xs) = All (λ y. is_gt (cmp x y) ≡ false) xs × AscendsAlong cmp xs

module _ {K V : Type 0} where
  -- each key is less than every key after it
  abbrev pub AscendsStrictly : (K → K → Ordering) → List (Entry K V) → Type 0
  AscendsStrictly cmp es = AllPairs (λ d e. cmp (entry_key d) (entry_key e) ≡ Less) es

  -- the map m has the entries of `source`, sorted by key; no room is lost, and capacity and hash index are those of `source`
  abbrev pub IsSortedOf : (K → K → Ordering) → Map K V → Map K V → Type 0
  IsSortedOf cmp source m = (m.entries ≡ sorted_by_key cmp source.entries) × KeepsMemory source m

module _ {K V T A : Type 0} (eq : K → K → Bool) (cmp : K → K → Ordering) (item : A → Entry K V) (steps : T → Option A → T → Type 0) where
  -- the map has the entries of a map that `Collects` the iterator's items, sorted by key; of items with equal keys the first key is
  -- kept, with the last value
  abbrev pub CollectsSorted : {U : Type 0} → (U → T → Type 0) → (T → Count) → U → Map K V → Type 0
  CollectsSorted becomes remaining iter m = (source : Map K V) × Collects eq item steps becomes remaining iter source × IsSortedOf cmp source m
