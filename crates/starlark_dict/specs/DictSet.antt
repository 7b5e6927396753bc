-- What a contract sees of a `DictSet`: the record that it sees of std's `HashSet`, whose `keys` are here the elements in the set's
-- order, with the memory in the place of the hasher. So the words and the lemmas of std on a `HashSet` serve, and this page passes
-- the words on.
pub use Rattle.std.specs.HashSet.{contains, contains_by, contains_text, get_by, spare as room, hasher_of as memory, IsClone, IsEmpty, IsUnique, IsUnchanged, IsReordered, IsDifference, IsFromIterResult, IsUnion, Updates, UpdatesBy, hash_set_eq as set_eq, hash_set_len as set_len}
pub use Rattle.std.specs.Set.{remove_key}
use Rattle.std.specs.Prelude.{◌≡◌, ℕ, ◌+◌, ◌≤◌, Bool, not, List, ◌∷◌, [], ◌++◌, Option, filter, fold, if◌then◌else◌, map, position}
use Rattle.std.specs.Iterator.Runs.{WholeRun}
use Rattle.std.specs.List.{list_any}
use Rattle.std.specs.HashSet.{HashSet}
use Rattle.std.specs.Set.{is_member}
use Rattle.std_collections.specs.Layout.HashMap.{hash_map}
use Rattle.starlark_dict.specs.Dict.{Dict, Memory}

-- a `DictSet` as contracts see it: `s.keys` are its elements in order, and `room s` is how many new ones surely need no memory
abbrev pub DictSet : Type 0 → Type 0
DictSet T = HashSet T Memory

module _ {T : Type 0} where
  -- the dictionary with these elements as its keys, whose every value is `()`
  abbrev pub as_dict : DictSet T → Dict T (Unit {0})
  as_dict s = hash_map (map (λ x. (x, tt)) s.keys) (memory s) (room s)

  -- the index of the element that passes the test
  abbrev pub index_of_by : (T → Bool) → DictSet T → Option ℕ
  index_of_by test s = position test s.keys

  -- length plus room has not fallen, so a length that surely needed no memory before needs none now
  abbrev pub KeepsRoom : DictSet T → DictSet T → Type 0
  KeepsRoom old new = set_len old + room old ≤ set_len new + room new

  -- no room is lost, and capacity and index stay
  abbrev pub KeepsMemory : DictSet T → DictSet T → Type 0
  KeepsMemory old new = KeepsRoom old new × (memory new ≡ memory old)

module _ {T : Type 0} (eq : T → T → Bool) where
  -- the elements after `insert`: they stay if one is equal to x, and else x is appended
  abbrev pub insert_key : List T → T → List T
  insert_key xs x = if list_any (eq x) xs then xs else xs ++ x ∷ []

  -- the elements after each of ys is inserted in turn
  abbrev pub insert_all : List T → List T → List T
  insert_all xs ys = fold insert_key xs ys

  -- the elements of s that t lacks, in the order of s
  abbrev pub difference : DictSet T → DictSet T → List T
  difference s t = filter (λ x. not (contains eq t x)) s.keys

  -- the elements of s, and then those of t that s lacks
  abbrev pub union : DictSet T → DictSet T → List T
  union s t = s.keys ++ difference t s

  -- the set has the iterator's items, up to its end, and nothing else. It speaks of a run, as the kit's clauses on iterators do, so
  -- that callers' proofs find the items
  abbrev pub HasEach : {S U : Type 0} → (S → Option T → S → Type 0) → (U → S → Type 0) → U → DictSet T → Type 0
  HasEach {S} {U} steps becomes iter s = (it : S) × becomes iter it × WholeRun steps it (λ p. (x : T) → contains eq s x ≡ is_member eq p.items x)
