-- Lists in ascending order.
use Rattle.std.specs.Prelude.{Bool, List, [], ◌∷◌, if◌then◌else◌, IsSortedByKey}
use Rattle.std.specs.Ordering.{is_lt}
use Rattle.std.specs.declared.cmp.Ordering.{Ordering}
use Rattle.starlark_hash.specs.Entries.{Entry, entry_key}

module _ {X : Type 0} (lt : X → X → Bool) where
  -- the list with x inserted before the first item that is not less
  abbrev pub insert_sorted : X → List X → List X
  insert_sorted x [] = x ∷ []
  insert_sorted x (y ∷ ys) = if lt y x then y ∷ insert_sorted x ys else x ∷ y ∷ ys

  -- the items in ascending order; ties keep their order
  abbrev pub sorted_by : List X → List X
  sorted_by [] = []
  sorted_by (x ∷ xs) = insert_sorted x (sorted_by xs)

module _ {K V : Type 0} (cmp : K → K → Ordering) where
  -- whether the first entry's key is less
  abbrev pub key_lt : Entry K V → Entry K V → Bool
  key_lt d e = is_lt (cmp (entry_key d) (entry_key e))

  -- no key is greater than the next
  abbrev pub Ascends : List (Entry K V) → Type 0
  Ascends es = IsSortedByKey entry_key cmp es

  -- the entries in ascending order of their keys; those with equal keys keep their order
  abbrev pub sorted_by_key : List (Entry K V) → List (Entry K V)
  sorted_by_key es = sorted_by key_lt es
