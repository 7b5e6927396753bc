-- The slots of the indices of a list, which the cells beside the table name.
use Rattle.std.specs.Prelude.{◌≡◌, ◌≢◌, ℕ, ◌-◌, ◌<◌, ◌≤◌, ◌^◌, ◌∷◌, List, length, map, Option, Some, None, IsPermutation, if◌then◌else◌, nat_le, slice_index, slice_index_or, vec_capacity}
use Rattle.std.specs.Global.{Vec}
use Rattle.std.specs.List.{Contains}
use Rattle.std.specs.Option.{option_map}
use Rattle.starlark_small.specs.Hashes.{numbered}
use Rattle.starlark_table.specs.Table.{Table, members, table_capacity, table_len}

-- the hash of the member in a slot
abbrev pub hash_in : Option (ℕ × ℕ) → ℕ
hash_in None = 0
hash_in (Some m) = m.0

-- the hash of each index, in the slot that its cell names
abbrev pub hashes_in : List (Option (ℕ × ℕ)) → List ℕ → List ℕ
hashes_in slots cells = map (λ s. hash_in (slice_index_or slots s None)) cells

-- each index in a slot is in the one that its cell names
pub record IsSited (cells : List ℕ) (slots : List (Option (ℕ × ℕ))) : Type 0 where
  pub within : (s h x : ℕ) → slice_index_or slots s None ≡ Some (h, x) → x < length cells
  pub named : (s h x : ℕ) → slice_index_or slots s None ≡ Some (h, x) → slice_index cells x ≡ s

-- each index but one is in the slot that its cell names
pub record StandsBut (but : ℕ) (cells : List ℕ) (slots : List (Option (ℕ × ℕ))) : Type 0 where
  pub there : (i : ℕ) → i < length cells → i ≢ but → (h : ℕ) × (slice_index_or slots (slice_index cells i) None ≡ Some (h, i))

-- no index is in two slots
pub record StandsOnce (slots : List (Option (ℕ × ℕ))) : Type 0 where
  pub once : (s u h k x : ℕ) → slice_index_or slots s None ≡ Some (h, x) → slice_index_or slots u None ≡ Some (k, x) → s ≡ u

-- the table has each index of the list under its hash, and the cells name the slot of each. There is memory for just as many cells as
-- the table has room for. There are slots, and 32 bits number slots and indices
pub record KeepsIndices (table : Table ℕ) (cells : List ℕ) (memory : ℕ) : Type 0 where
  pub bag : IsPermutation (numbered (hashes_in table.slots cells)) (members table)
  pub sited : IsSited cells table.slots
  pub even : length cells ≡ table_len table
  pub tight : memory ≡ table_capacity table
  pub some : 0 < length table.slots
  pub few : length table.slots ≤ 2 ^ 32
  pub narrow : table_capacity table ≤ 2 ^ 32

-- a member with another index
abbrev pub renaming : (ℕ → ℕ) → ℕ × ℕ → ℕ × ℕ
renaming name m = (m.0, name m.1)

-- the slots with each index replaced by the one that is given for it
abbrev pub renamed : (ℕ → ℕ) → List (Option (ℕ × ℕ)) → List (Option (ℕ × ℕ))
renamed name slots = map (option_map (renaming name)) slots

-- the index, decremented if it is above `last`
abbrev pub lowered : ℕ → ℕ → ℕ
lowered last index = if nat_le index last then index else index - 1

-- each index was replaced by the one that is given for it, in its slot
pub record RenamesEach (name : ℕ → ℕ) (old new : Table ℕ) : Type 0 where
  pub slots : new.slots ≡ renamed name old.slots
  pub room : new.room ≡ old.room

-- the cells name the slot of each index; their number and their memory are unchanged
pub record NamesSlots (slots : List (Option (ℕ × ℕ))) (old new : Vec ℕ) : Type 0 where
  pub sited : IsSited new.items slots
  pub even : length new.items ≡ length old.items
  pub spare : vec_capacity new ≡ vec_capacity old

-- an index was removed; slots and capacity stay, and the cells name the slots of the indices that are left
pub record TakesIndex (index : ℕ) (old new : Table ℕ) (before after : Vec ℕ) : Type 0 where
  pub taken : (h : ℕ) → Contains (members old) (h, index) → IsPermutation (members old) ((h, index) ∷ members new)
  pub slots : length new.slots ≡ length old.slots
  pub room : table_capacity new ≡ table_capacity old
  pub cells : NamesSlots new.slots before after
