-- The definitions by which contracts describe a `ReadyTable`.
use Rattle.std.specs.Prelude.{◌≡◌, ℕ, ◌+◌, ◌<◌, ◌≤◌, List, [], ◌∷◌, length, map, Option, Some, None, slice_index_or, slice_set, refl, nat_eq, if◌then◌else◌}
use Rattle.std.specs.List.{enumerate_from, AllZip}
use Rattle.std.specs.Option.{option_map}
use Rattle.std.specs.Coded.{Coded, code_by, coded×, coded_ℕ, coded_list, coded_option}
use Rattle.starlark_table.specs.Growth.{most_for}

-- the view of a table: its slots, each empty or with a member (a 64-bit hash and an item), and how many insertions
-- certainly need no memory
pub record Table (T : Type 0) : Type 0 where
  pub slots : List (Option (ℕ × T))
  pub room : ℕ

-- a table is stored as the tuple of its fields
abbrev pub table_code : {T : Type 0} → Coded T → Coded (Table T)
table_code {T} code =
    code_by
    (List (Option (ℕ × T)) × ℕ)
    (coded× (coded_list (coded_option (coded× coded_ℕ code))) coded_ℕ)
    (λ t. (t.slots, t.room))
    (λ p. record { slots = p.0; room = p.1 })
    (λ _. refl)

module _ {T : Type 0} where
  -- the members in some slots, in the order of the slots
  abbrev pub filled : List (Option (ℕ × T)) → List (ℕ × T)
  filled [] = []
  filled (None ∷ slots) = filled slots
  filled (Some m ∷ slots) = m ∷ filled slots

  -- the members in the order of iteration, the first slot first; most callers need only the bag of them
  abbrev pub members : Table T → List (ℕ × T)
  members t = filled t.slots

  -- how many members there are
  abbrev pub table_len : Table T → ℕ
  table_len t = length (members t)

  -- the capacity: length plus room
  abbrev pub table_capacity : Table T → ℕ
  table_capacity t = table_len t + t.room

  -- The capacity has not fallen. It is unchanged if it was enough for the present members; otherwise it has grown to at most
  -- `most_for` of their number.
  pub record GrowsAsNeeded (old new : Table T) : Type 0 where
    pub least : table_capacity old ≤ table_capacity new
    pub stays : table_len new ≤ table_capacity old → table_capacity new ≡ table_capacity old
    pub most : table_capacity old < table_len new → table_capacity new ≤ most_for (table_len new)

  -- there is no member and no room, so that a clone needs no memory
  abbrev pub NeedsNoMemory : Table T → Type 0
  NeedsNoMemory t = (members t ≡ []) × (t.room ≡ 0)

  -- the member at a slot, or none
  abbrev pub member_at : Table T → ℕ → Option (ℕ × T)
  member_at t slot = slice_index_or t.slots slot None

  -- the item at a slot, or none
  abbrev pub item_in : Table T → ℕ → Option T
  item_in t slot = option_map (λ m. m.1) (member_at t slot)

  -- the numbered slots that hold the hash, each with its item
  abbrev pub holders : ℕ → List (ℕ × Option (ℕ × T)) → List (ℕ × T)
  holders hash [] = []
  holders hash ((slot, None) ∷ rest) = holders hash rest
  holders hash ((slot, Some (h, x)) ∷ rest) =
      if nat_eq h hash then (slot, x) ∷ holders hash rest else holders hash rest

  -- the slots of a list that hold the hash, each with its item, in order
  abbrev pub holders_in : ℕ → List (Option (ℕ × T)) → List (ℕ × T)
  holders_in hash slots = holders hash (enumerate_from 0 slots)

  -- the items under a 64-bit hash, each with its slot: those that a search asks about
  abbrev pub items_under : ℕ → Table T → List (ℕ × T)
  items_under hash t = holders_in hash t.slots

  -- the items in some slots, in order
  abbrev pub items_in : List (Option (ℕ × T)) → List T
  items_in slots = map (λ m. m.1) (filled slots)

  -- the items in the order of iteration
  abbrev pub items_of : Table T → List T
  items_of t = items_in t.slots

  -- the table with another item at a slot, under the hash that is stored there
  abbrev pub with_item : Table T → ℕ → T → Table T
  with_item t slot item = record t { slots = slice_set t.slots slot (option_map (λ m. (m.0, item)) (member_at t slot)) }

module _ {T : Type 0} (is_clone : T → T → Type 0) where
  -- the clone of an empty slot is empty; the clone of a member is a clone of its item under its hash
  abbrev pub IsSlotClone : Option (ℕ × T) → Option (ℕ × T) → Type 0
  IsSlotClone None copy = copy ≡ None
  IsSlotClone (Some (h, x)) copy = (y : T) × is_clone x y × (copy ≡ Some (h, y))

  -- the copy has a clone in each slot, and as much room
  pub record IsTableClone (t copy : Table T) : Type 0 where
    pub slots : AllZip IsSlotClone t.slots copy.slots
    pub room : copy.room ≡ t.room
