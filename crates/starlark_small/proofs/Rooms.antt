-- The room of a list and its hash index after each change.
use Rattle.starlark_hash.proofs.Common.{◌≡◌, ℕ, ◌+◌, ◌-◌, ◌<◌, ◌≤◌, ◌∙◌, Option, refl, arith, length, ap, is_some, remove, length-remove}
use Rattle.std.proofs.Common.{option_map}
pub use Rattle.starlark_small.proofs.ValuesWritten.{IsSound-set_value_at}
use Rattle.starlark_hash.specs.Entries.{set_value_at}
use Rattle.starlark_hash.proofs.EntryLemmas.{length-set_value_at}
use Rattle.starlark_small.specs.Hashes.{Hashes, forgotten}
use Rattle.starlark_small.specs.Index.{IsIndexed, index_room, map_of}
use Rattle.starlark_small.specs.Map.{KeepsMemory}
use Rattle.starlark_small.proofs.Indexed.{indexed-at, is_some-map, room-forgotten}
use Rattle.starlark_vecmap.specs.EntryList.{EntryList, with_entries}

module _ {K V : Type 0} where
  -- a value was written
  pub map_of-set_value_at : (list : EntryList K V) (i : ℕ) (value : V) (index : Option Hashes)
      → map_of (with_entries list (set_value_at list.entries i value)) index ≡ record (map_of list index) { entries = set_value_at list.entries i value }
  map_of-set_value_at list i value index = rw (length-set_value_at list.entries i value) refl

  -- an entry was removed
  pub KeepsMemory-removed : (old new : EntryList K V) (i : ℕ) (index after : Option Hashes) → new.entries ≡ remove old.entries i → new.capacity ≡ old.capacity → i < length old.entries → length old.entries ≤ old.capacity → IsIndexed old.entries index
      → after ≡ option_map (forgotten i) index → KeepsMemory (map_of old index) (map_of new after)
  KeepsMemory-removed old new i index after is capacity below within indexed left =
      let shorter : length new.entries ≡ length old.entries - 1 = omega (arith, ap length is, length-remove old.entries i below) in
      let room = room-forgotten (length old.entries) i index (indexed-at old.entries index indexed) (omega (arith, below)) in
      let now : 1 + index_room (length old.entries) index ≤ index_room (length new.entries) after = rw (left, shorter) room in (
        omega (arith, shorter, capacity, below, within, now),
        capacity,
        ap is_some left ∙ is_some-map (forgotten i) index,
      )

  -- some entries were removed
  pub KeepsMemory-fewer : (old new : EntryList K V) (index after : Option Hashes) → length new.entries ≤ length old.entries → length old.entries ≤ old.capacity → new.capacity ≡ old.capacity
      → length old.entries + index_room (length old.entries) index ≤ length new.entries + index_room (length new.entries) after → is_some after ≡ is_some index → KeepsMemory (map_of old index) (map_of new after)
  KeepsMemory-fewer old new index after fewer within capacity room kept = (omega arith, capacity, kept)

  -- the entries were permuted
  pub KeepsMemory-turned : (old new : EntryList K V) (index after : Option Hashes) → length new.entries ≡ length old.entries → new.capacity ≡ old.capacity
      → length old.entries + index_room (length old.entries) index ≤ length new.entries + index_room (length new.entries) after → is_some after ≡ is_some index → KeepsMemory (map_of old index) (map_of new after)
  KeepsMemory-turned old new index after same capacity room kept = (omega arith, capacity, kept)
