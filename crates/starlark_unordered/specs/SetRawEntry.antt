-- The definitions that the contracts of a set's raw entries cite.
pub use Rattle.starlark_unordered.specs.declared.unordered_set.raw_entry.RawEntryMut.TheVariants.{Occupied, Vacant}
use Rattle.std.specs.Prelude.{ℕ, Option, Some, None}
use Rattle.std.specs.Option.{option_map}
use Rattle.std.specs.Borrow.{MutBor}
use Rattle.std.specs.declared.cmp.PartialEq as eq
use Rattle.std.specs.declared.hash.Hash as hash
use Rattle.starlark_table.specs.Table.{item_in}
use Rattle.starlark_unordered.specs.RawEntry.{with_key, key_still_there}
use Rattle.starlark_unordered.specs.Set.{Set}
use Rattle.starlark_unordered.specs.declared.unordered_set.raw_entry.RawEntryMut.{RawEntryMut}
use Rattle.starlark_unordered.specs.declared.unordered_set.raw_entry.RawOccupiedEntryMut.{RawOccupiedEntryMut}

module _ {T : Type 0} {g : eq.Ghosts T} {h : hash.Ghosts T} where
  -- the lent set that a raw entry holds
  abbrev pub set_of_raw : RawEntryMut T g h → MutBor (Set T)
  set_of_raw (Occupied o) = o.map
  set_of_raw (Vacant v) = v.map

  -- the slot that was found, if any
  abbrev pub slot_of_entry : RawEntryMut T g h → Option ℕ
  slot_of_entry (Occupied o) = Some o.slot
  slot_of_entry (Vacant v) = None

  -- the element at an occupied entry's slot
  abbrev pub stored_element : RawOccupiedEntryMut T g h → Option T
  stored_element o = option_map (λ p. p.0) (item_in o.map.now o.slot)

  -- the entry with this element, and otherwise unchanged
  abbrev pub with_raw_element : RawOccupiedEntryMut T g h → T → RawOccupiedEntryMut T g h
  with_raw_element o element = record { map = record o.map { now = with_key o.map.now o.slot element }; slot = o.slot; there = key_still_there o.map.now o.slot element o.there }
