-- The definitions that the contracts of a map's raw entries cite.
pub use Rattle.starlark_unordered.specs.declared.raw_entry.RawEntryMut.TheVariants.{Occupied, Vacant}
use Rattle.std.proofs.Common.{◌∙◌, ap, refl, Bool, true, ◌≡◌, ℕ, List, ◌∷◌, ◌++◌, Option, Some, None}
use Rattle.std.specs.Prelude.{[], slice_set, IfSome}
use Rattle.std.specs.Option.{is_some, option_map}
use Rattle.std.specs.Borrow.{Fml, RattleType, Bor, MutBor, follows}
use Rattle.std.specs.Fn.{Mut}
use Rattle.std.specs.Hash.{HashWrites}
use Rattle.std.specs.declared.cmp.PartialEq as eq
use Rattle.std.specs.declared.hash.Hash as hash
use mir.Syntax.{named}
use Rattle.starlark_hash.specs.declared.hash_value.StarlarkHashValue.{StarlarkHashValue}
use Rattle.starlark_hash.specs.Search.{Searches}
use Rattle.starlark_table.specs.Table.{Table, item_in, member_at}
use Rattle.starlark_unordered.specs.Lookup.{found, Writes}
use Rattle.starlark_unordered.specs.Pairs.{pairs_of, keys_under, with_value, IsSlotOf}
use Rattle.starlark_unordered.specs.Slots.{set_same, still_there}
use Rattle.starlark_unordered.specs.contracts.raw_entry.RawOccupiedEntryMut as occupied
use Rattle.starlark_unordered.specs.declared.raw_entry.RawEntryMut.{RawEntryMut}
use Rattle.starlark_unordered.specs.declared.raw_entry.RawOccupiedEntryMut.{RawOccupiedEntryMut}

-- y replaces x
abbrev pub IsInPlace : {X : Type 0} → X → X → List X → List X → Type 0
IsInPlace {X = X} x y old new = (before : List X) × (after : List X) × (old ≡ before ++ x ∷ after) × (new ≡ before ++ y ∷ after)

module _ {K V : Type 0} where
  -- an entry holds the lent map, unchanged
  pub record HoldsMap (lent held : MutBor (Table (K × V))) : Type 0 where
    pub same_map : held.ghost_name ≡ lent.ghost_name
    pub map : held.now ≡ lent.now

  -- an entry holds the lent map, unchanged, with the slot of the key that passes, or with none if no key passes
  pub record NamesSlot (t : K → Bool) (lent held : MutBor (Table (K × V))) (found : Option ℕ) : Type 0 where
    pub same_map : held.ghost_name ≡ lent.ghost_name
    pub map : held.now ≡ lent.now
    pub slot : IsSlotOf t lent.now found

  -- a slot with a key of this own hash that the closure accepts, or none if it refuses them all
  pub record Accepts {F : Type 0} (g : Mut F (Bor K × Unit {0}) Bool) (feeds : K → HashWrites) (under : StarlarkHashValue) (f : F) (m : Table (K × V)) (slot : Option ℕ) : Type 0 where
    pub found : (last : F) × Searches g (keys_under feeds under m) f slot last
    pub there : IfSome slot (λ slot. is_some (item_in m slot) ≡ true)

  -- the map with another key in a slot
  abbrev pub with_key : Table (K × V) → ℕ → K → Table (K × V)
  with_key m slot key = record m { slots = slice_set m.slots slot (option_map (λ e. (e.0, (key, e.1.1))) (member_at m slot)) }

  -- the key replaces the one in the slot, which is returned
  pub record PutsKey (slot : ℕ) (key was : K) (before after : Table (K × V)) : Type 0 where
    pub old : option_map (λ p. p.0) (item_in before slot) ≡ Some was
    pub new : after ≡ with_key before slot key

  still_some : (key : K) (o : Option (ℕ × (K × V))) → is_some (option_map (λ m. m.1) o) ≡ true
      → is_some (option_map {T = ℕ × (K × V)} (λ m. m.1) (option_map {T = ℕ × (K × V)} (λ e. (e.0, (key, e.1.1))) o)) ≡ true
  still_some key None there = there
  still_some key (Some m) there = refl

  -- a slot that has a pair has one after its key was written
  pub key_still_there : (m : Table (K × V)) (slot : ℕ) (key : K) → is_some (item_in m slot) ≡ true → is_some (item_in (with_key m slot key) slot) ≡ true
  key_still_there m slot key there =
      ap (λ o. is_some (option_map {T = ℕ × (K × V)} (λ m. m.1) o)) (set_same (option_map (λ e. (e.0, (key, e.1.1)))) refl m.slots slot) ∙ still_some key (member_at m slot) there

module _ {K V : Type 0} {g : eq.Ghosts K} {h : hash.Ghosts K} where
  -- the lent map that a raw entry holds
  abbrev pub map_of_raw : RawEntryMut K V g h → MutBor (Table (K × V))
  map_of_raw (Occupied o) = o.map
  map_of_raw (Vacant v) = v.map

  -- the slot that was found, if any
  abbrev pub slot_of_raw : RawEntryMut K V g h → Option ℕ
  slot_of_raw (Occupied o) = Some o.slot
  slot_of_raw (Vacant v) = None

  -- the pair at an occupied entry's slot
  abbrev pub stored_raw : RawOccupiedEntryMut K V g h → Option (K × V)
  stored_raw o = item_in o.map.now o.slot

  -- what `from_key` returns. The entry is occupied and has the slot in m of the key that passes, or it is vacant and no key
  -- passes. Writing a value in the slot writes the value at that key and changes no other.
  abbrev pub IsRawEntryAt : (K → K → Bool) → (K → Bool) → Table (K × V) → RawEntryMut K V g h → Type 0
  IsRawEntryAt eq t m (Occupied o) = (o.map.now ≡ m) × (found t (pairs_of m) ≡ option_map (λ p. p.1) (stored_raw o)) × ((w : V) → Writes eq t m (with_value o.map.now o.slot w) (Some w))
  IsRawEntryAt eq t m (Vacant v) = (v.map.now ≡ m) × (found t (pairs_of m) ≡ None)

  -- the entry with this value, and otherwise unchanged
  abbrev pub with_raw_value : RawOccupiedEntryMut K V g h → V → RawOccupiedEntryMut K V g h
  with_raw_value o w = record { map = record o.map { now = with_value o.map.now o.slot w }; slot = o.slot; there = still_there o.map.now o.slot w o.there }

  -- the entry with this key, and otherwise unchanged
  abbrev pub with_raw_key : RawOccupiedEntryMut K V g h → K → RawOccupiedEntryMut K V g h
  with_raw_key o key = record { map = record o.map { now = with_key o.map.now o.slot key }; slot = o.slot; there = key_still_there o.map.now o.slot key o.there }

module _ (K V : RattleType) {g : eq.Ghosts K.Denot} {h : hash.Ghosts K.Denot} where
  -- the entry ends with the value that is left behind the reference
  abbrev pub raw_keeps : MutBor (RawOccupiedEntryMut K.Denot V.Denot g h) → MutBor V.Denot → Fml
  raw_keeps o r = follows (occupied.the_row (record { mir = named 1; lft = [] }) K V g h) V o.ghost_name r.ghost_name (with_raw_value o.now)
