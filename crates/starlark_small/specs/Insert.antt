-- What an insertion into a `SmallMap` leaves, done or refused. Sets and ordered types cite these definitions too: a set is a map to
-- `()`. What any insertion makes of a list is `insert_entry`, in `starlark_hash/specs/Insert.antt`.
use Rattle.std.specs.Prelude.{◌≡◌, ◌+◌, ◌<◌, ◌||◌, Bool, IsSome, [], ◌∷◌, ◌++◌, length, nat_lt, ℕ, None, is_some, if◌then◌else◌}
use Rattle.starlark_hash.specs.declared.hashed.Hashed.{Hashed}
use Rattle.starlark_hash.specs.HashValue.{hash_of, key_of}
use Rattle.starlark_hash.specs.Insert.{insert_entry}
use Rattle.starlark_hash.specs.Lookup.{found, weight_of}
use Rattle.starlark_small.specs.Memory.{StaysOrGrows, reserved_capacity, IsRefusedFor}
use Rattle.starlark_small.specs.Index.{unindexed}
use Rattle.starlark_small.specs.Map.{Map, KeepsRoom}
use Rattle.starlark_small.specs.Lookup.{keys, total_of}

module _ {K V : Type 0} where
  -- new is old with this entry appended. With room to spare, capacity and index stay. No room is lost, the capacity is that of the
  -- list after a reservation for one entry, and there is an index if there was one or the list is now longer than the threshold
  pub record IsInserted (old new : Map K V) (key : Hashed K) (value : V) : Type 0 where
    pub entries : new.entries ≡ old.entries ++ (key, value) ∷ []
    pub spare : 0 < old.room → (new.capacity ≡ old.capacity) × (new.indexed ≡ old.indexed)
    pub room : KeepsRoom old new
    pub capacity : new.capacity ≡ reserved_capacity old 1
    pub indexed : new.indexed ≡ (old.indexed || nat_lt unindexed (length old.entries + 1))

  -- new is old after one new entry was refused: entries and index stay, no room is lost, and the capacity is the old one or that
  -- after a reservation for one
  abbrev pub IsRefused : Map K V → Map K V → Type 0
  IsRefused old new = IsRefusedFor 1 old new

module _ {K V : Type 0} (eq : K → K → Bool) where
  -- new is old after an insertion, as a list: its entries, its keys in order, its length, where a new entry is, and by any measure
  -- the sum of its values
  pub record Inserts (old new : Map K V) (key : Hashed K) (value : V) : Type 0 where
    pub entries : new.entries ≡ insert_entry eq old.entries key value
    pub keys : keys new ≡ (if is_some (found (eq (key_of key)) (hash_of key) old.entries) then keys old else keys old ++ key_of key ∷ [])
    pub count : length new.entries ≡ length old.entries + (if is_some (found (eq (key_of key)) (hash_of key) old.entries) then 0 else 1)
    pub pushed : found (eq (key_of key)) (hash_of key) old.entries ≡ None → new.entries ≡ old.entries ++ (key, value) ∷ []
    pub total : (measure : V → ℕ) → total_of measure new.entries + weight_of measure (found (eq (key_of key)) (hash_of key) old.entries) ≡ total_of measure old.entries + measure value

  -- an insertion was refused: its key is new, and there was no room. Entries and index are unchanged; the capacity may have grown
  pub record IsRefusedInsertion (old new : Map K V) (key : Hashed K) : Type 0 where
    pub lacking : found (eq (key_of key)) (hash_of key) old.entries ≡ None
    pub full : old.room ≡ 0
    pub entries : new.entries ≡ old.entries
    pub indexed : new.indexed ≡ old.indexed

  -- what an insertion under this key leaves of the map's memory, done or refused. A key that is there changes nothing but its
  -- value. With room to spare, capacity and index stay. No room is lost. The capacity is the old one or, where the list grew, that
  -- after a reservation for one entry. There is an index if there was one or the list is now longer than the threshold
  pub record LeavesMemory (old new : Map K V) (key : Hashed K) : Type 0 where
    pub replaced : IsSome (found (eq (key_of key)) (hash_of key) old.entries) → new ≡ record old { entries = new.entries }
    pub spare : 0 < old.room → (new.capacity ≡ old.capacity) × (new.indexed ≡ old.indexed)
    pub room : KeepsRoom old new
    pub capacity : StaysOrGrows 1 old new
    pub grown : length old.entries < length new.entries → new.capacity ≡ reserved_capacity old 1
    pub indexed : new.indexed ≡ (old.indexed || nat_lt unindexed (length new.entries))
