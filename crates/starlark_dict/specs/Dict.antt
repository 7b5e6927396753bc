-- What a contract sees of a `Dict`: the record that it sees of std's `HashMap`, whose `entries` are here in the map's order, with
-- the memory in the place of the hasher. So the words and the lemmas of std on a `HashMap` serve, and this page passes the words on.
pub use Rattle.std.specs.HashMap.{keys, values, get, get_by, get_key, get_key_by, get_by_text, hasher_of as memory, spare as room, ContainsKey, IsClone, IsEmpty, IsFromIterResult, IsUnique, IsUnchanged, InsertsAll, Updates, UpdatesBy, WritesThrough, hash_map_len as dict_len}
pub use Rattle.std.specs.Map.{remove_entry}
use Rattle.std.specs.Prelude.{◌≡◌, ◌⊎◌, ℕ, ◌+◌, ◌<◌, ◌≤◌, Bool, ◌||◌, List, [], ◌∷◌, fold, length, map, nat_lt, if◌then◌else◌, position, Option}
use Rattle.std.specs.Iterator.Runs.{WholeRun}
use Rattle.std.specs.Map.{update_all}
use base.Stored.{Coded, coded×, coded_bool, coded_ℕ, coded_via}
use Rattle.std_collections.specs.Layout.HashMap.{HashMap, hash_map}
use Rattle.starlark_hash.specs.Entries.{pair_of}
use Rattle.starlark_vec2.specs.Growth as growth
use Rattle.starlark_vec2.specs.PairList.{pair_list}
use Rattle.starlark_small.specs.Index.{unindexed}
use Rattle.starlark_small.specs.Map.{Map}

-- the memory of a map: how many entries the list holds before it grows, and whether there is a hash index
pub record Memory : Type 0 where
  pub capacity : ℕ
  pub indexed : Bool

-- how the memory is stored
pub memory_code : Coded Memory
memory_code = coded_via (coded× coded_ℕ coded_bool) (λ m. (m.capacity, m.indexed)) (λ a b e i. record { capacity = (e i).0; indexed = (e i).1 })

-- a `Dict` as contracts see it: `d.entries` are its keys and values in order, and `room d` is how many new keys surely need no
-- memory
abbrev pub Dict : Type 0 → Type 0 → Type 0
Dict K V = HashMap K V Memory

-- what is seen of the small map inside
abbrev pub dict_of : {K V : Type 0} → Map K V → Dict K V
dict_of m = hash_map (map pair_of m.entries) (record { capacity = m.capacity; indexed = m.indexed }) m.room

module _ {K V : Type 0} (eq : K → K → Bool) where
  -- the entries after `insert`: a key that is there keeps its place and takes the value, and a new key is appended
  abbrev pub insert_entry : List (K × V) → K → V → List (K × V)
  insert_entry [] k v = (k, v) ∷ []
  insert_entry (e ∷ es) k v = if eq k e.0 then (e.0, v) ∷ es else e ∷ insert_entry es k v

  -- the entries after each pair of xs is inserted in turn
  abbrev pub insert_all : List (K × V) → List (K × V) → List (K × V)
  insert_all es xs = fold (λ done p. insert_entry done p.0 p.1) es xs

module _ {K V : Type 0} where
  -- the index of the key that passes the test
  abbrev pub index_of_by : (K → Bool) → Dict K V → Option ℕ
  index_of_by test d = position test (keys d)

  -- length plus room has not fallen, so a length that surely needed no memory before needs none now
  abbrev pub KeepsRoom : Dict K V → Dict K V → Type 0
  KeepsRoom old new = dict_len old + room old ≤ dict_len new + room new

  -- the capacity after a reservation for n new keys, which grows only where their room is missing
  abbrev pub reserved_capacity : Dict K V → ℕ → ℕ
  reserved_capacity d n = growth.reserved_capacity (pair_list d.entries (memory d).capacity) n

  -- the capacity is the old one, or that after a reservation for n new keys
  abbrev pub StaysOrGrows : ℕ → Dict K V → Dict K V → Type 0
  StaysOrGrows n old new = ((memory new).capacity ≡ (memory old).capacity) ⊎ ((memory new).capacity ≡ reserved_capacity old n)

  -- no room is lost, and capacity and hash index stay
  abbrev pub KeepsMemory : Dict K V → Dict K V → Type 0
  KeepsMemory old new = KeepsRoom old new × (memory new ≡ memory old)

-- `extend` took old to new by inserting each of xs in turn, and each uses up room for one at most
abbrev pub Extends : {K V : Type 0} → (K → K → Bool) → Dict K V → List (K × V) → Dict K V → Type 0
Extends eq old xs new = (new.entries ≡ insert_all eq old.entries xs) × InsertsAll eq old xs new × (room old ≤ room new + length xs)

-- Of all items that an iterator gives. Both speak of a run, as std's clauses on iterators do, so that callers' proofs find the items.
module _ {K V T U : Type 0} (eq : K → K → Bool) (steps : T → Option (K × V) → T → Type 0) (becomes : U → T → Type 0) (iter : U) where
  -- the items were inserted in turn into these entries
  abbrev pub InsertsItems : List (K × V) → Dict K V → Type 0
  InsertsItems es d = (it : T) × becomes iter it × WholeRun steps it (λ p. d.entries ≡ insert_all eq es p.items)

  -- each key has the last value that the items have for it, or else the one before
  abbrev pub FindsLast : (K → Option V) → Dict K V → Type 0
  FindsLast before d = (it : T) × becomes iter it × WholeRun steps it (λ p. (key : K) → get eq d key ≡ update_all eq before p.items key)

-- what an insertion leaves of the memory, done or refused. With room to spare capacity and hash index stay. The capacity is the old
-- one, or that after a reservation for one new key; and there is a hash index if there was one or the map is now longer than
-- the threshold
pub record LeavesMemory {K V : Type 0} (old new : Dict K V) : Type 0 where
  pub spare : 0 < room old → memory new ≡ memory old
  pub capacity : StaysOrGrows 1 old new
  pub indexed : (memory new).indexed ≡ ((memory old).indexed || nat_lt unindexed (dict_len new))
