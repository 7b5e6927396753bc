-- The hash index of a list of entries, and the map that list and hash index are together.
use Rattle.std.specs.Prelude.{◌≡◌, ℕ, ◌+◌, ◌-◌, ◌≤◌, ◌<◌, ◌^◌, min, List, map, length, Option, Some, None, Bool, is_some}
use Rattle.std.specs.List.{All}
use Rattle.starlark_hash.specs.Entries.{Entry, IsSingle, entry_hash}
use Rattle.starlark_hash.specs.HashValue.{hash_number}
use Rattle.starlark_small.specs.Hashes.{Hashes, hash_under, numbered}
use Rattle.starlark_small.specs.Map.{Map}
use Rattle.starlark_vecmap.specs.EntryList.{EntryList}

-- the threshold: the greatest length that a list may have without a hash index
abbrev pub unindexed : ℕ
unindexed = 16

-- how many new entries certainly need no memory for the hash index of a list of this length, if it has one or not
abbrev pub index_room : ℕ → Option Hashes → ℕ
index_room len None = unindexed - len
index_room len (Some h) = h.room

-- a hash index has one hash for each entry of a list of this length; without one, this length is at most the threshold
abbrev pub IsIndexedAt : ℕ → Option Hashes → Type 0
IsIndexedAt len None = len ≤ unindexed
IsIndexedAt len (Some h) = length h.list ≡ len

module _ {K V : Type 0} where
  -- the promoted hashes of the entries, in their order
  abbrev pub hashes_of : List (Entry K V) → List ℕ
  hashes_of es = map (λ e. hash_under (entry_hash e)) es

  -- each index of the list, under the promoted hash of its entry
  abbrev pub positions : List (Entry K V) → List (ℕ × ℕ)
  positions es = numbered (hashes_of es)

  -- these are the hashes of the list, each the promotion of a number of 32 bits
  pub record IsIndexOf (es : List (Entry K V)) (h : Hashes) : Type 0 where
    pub list : h.list ≡ hashes_of es
    pub fits : All (λ e. hash_number (entry_hash e) < 2 ^ 32) es

  -- the hash index, if there is one, is that of the list; without one, the list is no longer than the threshold
  abbrev pub IsIndexed : List (Entry K V) → Option Hashes → Type 0
  IsIndexed es None = length es ≤ unindexed
  IsIndexed es (Some h) = IsIndexOf es h

  -- the map's invariant: no two entries have the same hash and equal keys, and the hash index is right
  pub record IsSound (eq : K → K → Bool) (es : List (Entry K V)) (index : Option Hashes) : Type 0 where
    pub single : IsSingle eq es
    pub indexed : IsIndexed es index

  -- how many new entries certainly need no memory, neither for the list nor for the hash index
  abbrev pub room_of : EntryList K V → Option Hashes → ℕ
  room_of list index = min (list.capacity - length list.entries) (index_room (length list.entries) index)

  -- the map that a contract sees of a list and its hash index
  abbrev pub map_of : EntryList K V → Option Hashes → Map K V
  map_of list index = record {
    entries = list.entries;
    room = room_of list index;
    capacity = list.capacity;
    indexed = is_some index;
  }

  -- new is right for the list after a change, there is a hash index exactly if there was one, and no room is lost
  pub record IndexFollows (before : EntryList K V) (old : Option Hashes) (after : EntryList K V) (new : Option Hashes) : Type 0 where
    pub indexed : IsIndexed after.entries new
    pub room : length before.entries + index_room (length before.entries) old ≤ length after.entries + index_room (length after.entries) new
    pub kept : is_some new ≡ is_some old
