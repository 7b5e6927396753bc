-- The definitions that the contracts of a map's `Entry` cite.
pub use Rattle.starlark_small.specs.declared.entry.Entry.TheVariants.{Occupied, Vacant}
use Rattle.std.proofs.Common.{subst, sym}
use Rattle.std.specs.Prelude.{◌≡◌, ℕ, ◌<◌, ◌≤◌, Bool, Option, Some, None, Result, MatchResult, IfSome, IsSomeAnd, IsErr, IsOk, OnOk, OnErr, [], length, slice_get, ⊤}
use Rattle.std.specs.Hash.{HashWrites}
use Rattle.std.specs.Borrow.{Fml, RattleType, MutBor, follows, follows_so, name_if_ok}
use Rattle.std.specs.Fn.{Once, FnOnceTakesAtMut, FnOnceReturnsAtMut}
use Rattle.std.specs.Map.Calls.{MayWrite}
use Rattle.std.specs.Option.{option_map}
use Rattle.std.specs.declared.cmp.PartialEq as eq
use mir.Syntax.{named}
use Rattle.starlark_hash.specs.declared.hashed.Hashed.{Hashed}
use Rattle.starlark_hash.specs.declared.no_room.NoRoom.{NoRoom}
use Rattle.starlark_hash.specs.Entries.{entry_key, entry_value, match_of, set_value_at}
use Rattle.starlark_hash.specs.HashValue.{hash_of, key_of}
use Rattle.starlark_hash.specs.Hasher.{own_hash}
use Rattle.starlark_hash.specs.Lookup.{found, Writes, weight_of}
use Rattle.starlark_hash.proofs.EntryLemmas.{length-set_value_at}
use Rattle.starlark_small.specs.Lookup.{AreOwn, total_of}
use Rattle.starlark_small.specs.Insert.{Inserts, IsInserted, IsRefused}
use Rattle.starlark_small.specs.Map.{Map}
use Rattle.starlark_small.specs.contracts.entry.OccupiedEntry as occupied
use Rattle.starlark_small.specs.contracts.small_map.SmallMap.{the_row}
use Rattle.starlark_small.specs.declared.entry.Entry.{Entry}
use Rattle.starlark_small.specs.declared.entry.OccupiedEntry.{OccupiedEntry}
use Rattle.starlark_small.specs.declared.entry.VacantEntry.{VacantEntry}

module _ {K V : Type 0} {g : eq.Ghosts K} where
  -- the lent map that an occupied entry holds
  abbrev pub occupied_map : OccupiedEntry K V g → MutBor (Map K V)
  occupied_map o = o.map

  -- the index of an occupied entry in that map
  abbrev pub occupied_index : OccupiedEntry K V g → ℕ
  occupied_index o = o.index

  -- the lent map that a vacant entry holds
  abbrev pub vacant_map : VacantEntry K V g → MutBor (Map K V)
  vacant_map v = v.map

  -- the key that the map lacks, with its hash
  abbrev pub lacking_key : VacantEntry K V g → Hashed K
  lacking_key v = v.key

  -- the lent map that an entry holds
  abbrev pub map_of_entry : Entry K V g → MutBor (Map K V)
  map_of_entry (Occupied o) = occupied_map o
  map_of_entry (Vacant v) = vacant_map v

  -- the entry is occupied and has the index of the key in m, or it is vacant and m lacks the key
  abbrev pub IsEntryOf : (K → K → Bool) → Map K V → Hashed K → Entry K V g → Type 0
  IsEntryOf eq m key (Occupied o) = ((occupied_map o).now ≡ m) × (match_of eq m.entries key ≡ Some (occupied_index o))
  IsEntryOf eq m key (Vacant v) = ((vacant_map v).now ≡ m) × (found (eq (key_of key)) (hash_of key) m.entries ≡ None) × (lacking_key v ≡ key)

  -- the stored key and value at an occupied entry's index
  abbrev pub stored : OccupiedEntry K V g → Option (Hashed K × V)
  stored o = slice_get (occupied_map o).now.entries (occupied_index o)

  -- the value of an occupied entry
  abbrev pub entry_value_of : Entry K V g → Option V
  entry_value_of (Occupied o) = option_map entry_value (stored o)
  entry_value_of (Vacant v) = None

  -- the stored key of an occupied entry, or the key that the map lacks
  abbrev pub IsKeyOf : Entry K V g → K → Type 0
  IsKeyOf (Occupied o) key = option_map entry_key (stored o) ≡ Some key
  IsKeyOf (Vacant v) key = key ≡ key_of (lacking_key v)

  -- the map with this value at the entry's index, and otherwise unchanged
  abbrev pub written : OccupiedEntry K V g → V → Map K V
  written o value = record (occupied_map o).now { entries = set_value_at (occupied_map o).now.entries (occupied_index o) value }

  -- the map after this value was put at the entry: written if the entry was occupied, inserted if it was vacant
  abbrev pub IsPut : Entry K V g → V → Map K V → Type 0
  IsPut (Occupied o) value m = m ≡ written o value
  IsPut (Vacant v) value m = IsInserted (vacant_map v).now m (lacking_key v) value

  -- `IsPut`, as a definition that callers' proofs never unfold
  unfoldable pub Puts : Entry K V g → V → Map K V → Type 0
  Puts e value m = IsPut e value m

  -- the map has no entry under the key
  abbrev pub IsVacant : Entry K V g → Type 0
  IsVacant (Occupied o) = ⊥
  IsVacant (Vacant v) = ⊤

  -- the map after an insertion at a vacant entry was refused: its entries are unchanged. Callers' proofs never unfold this
  -- definition
  unfoldable pub Refuses : Entry K V g → Map K V → Type 0
  Refuses e m = IsVacant e × IsRefused (map_of_entry e).now m

  -- what `entry` returns, and what later calls of the entry make of the map. The entry shows the value at the key, if there is one.
  -- Once a value was put at it, the key has that value, and all other keys have what they had; a new key is appended, and keys under
  -- their own hashes stay so. If the insertion was refused, the entries are unchanged
  pub record Enters (eq : K → K → Bool) (old : Map K V) (key : Hashed K) (e : Entry K V g) : Type 0 where
    pub entry : IsEntryOf eq old key e
    pub value : entry_value_of e ≡ found (eq (key_of key)) (hash_of key) old.entries
    pub updates : (value : V) (new : Map K V) → Puts e value new → Writes eq (eq (key_of key)) (hash_of key) old.entries new.entries (Some value)
    pub inserts : (value : V) (new : Map K V) → Puts e value new → Inserts eq old new key value
    pub own : (feeds : K → HashWrites) → hash_of key ≡ own_hash feeds (key_of key) → (value : V) (new : Map K V) → Puts e value new → AreOwn feeds old → AreOwn feeds new
    pub refused : (new : Map K V) → Refuses e new → new.entries ≡ old.entries
    -- by any measure, the value at the key is at most the sum of all values
    pub part : (measure : V → ℕ) → weight_of measure (entry_value_of e) ≤ total_of measure old.entries

  -- r is the value of an occupied entry, or for a vacant one a value that may be given. Only a vacant entry is refused, and the key
  -- then comes back with such a value
  abbrev pub ShowsOrGives : (V → Type 0) → Entry K V g → Result (MutBor V) (NoRoom (Hashed K × V)) → Type 0
  ShowsOrGives gives (Occupied o) r = MatchResult r (λ p. option_map entry_value (stored o) ≡ Some p.now) (λ _. ⊥)
  ShowsOrGives gives (Vacant v) r = MatchResult r (λ p. gives p.now) (λ back. (back.0.0 ≡ lacking_key v) × gives back.0.1)

  -- the index of an entry is below the length, whatever value is written there
  pub still_within : (o : OccupiedEntry K V g) (value : V) → occupied_index o < length (written o value).entries
  still_within o value = subst (λ n. occupied_index o < n) (sym (length-set_value_at (occupied_map o).now.entries (occupied_index o) value)) o.within

  -- the entry with this value, and otherwise unchanged
  abbrev pub with_entry_value : OccupiedEntry K V g → V → OccupiedEntry K V g
  with_entry_value o value = record { map = record (occupied_map o) { now = written o value }; index = occupied_index o; within = still_within o value }

module _ {F V : Type 0} (g : Once F (MutBor V × Unit {0}) (⊤ × (MutBor V × Unit {0}))) (f : F) where
  -- the new value, if there is one, was left by a call of f on the old one
  abbrev pub IsLeftBy : Option V → Option V → Type 0
  IsLeftBy old new = IfSome new (λ v. IsSomeAnd old (λ was. MayWrite g f was v))

module _ {F K V : Type 0} {eqs : eq.Ghosts K} (g : Once F (MutBor V × Unit {0}) (⊤ × (MutBor V × Unit {0}))) (f : F) where
  -- f may be called on a `&mut` to the entry's value, if it has one
  abbrev pub TakesItsValue : Entry K V eqs → Type 0
  TakesItsValue e = (value : V) → entry_value_of e ≡ Some value → FnOnceTakesAtMut g f value

  -- f was called once on the value of o, and e is the entry with the value that f left
  pub record ChangesItsValue (o : OccupiedEntry K V eqs) (e : Entry K V eqs) : Type 0 where
    pub old : V
    pub new : V
    pub there : option_map entry_value (stored o) ≡ Some old
    pub called : FnOnceReturnsAtMut g f old tt new
    pub entry : e ≡ Occupied (with_entry_value o new)

  -- `ChangesItsValue` of an occupied entry; a vacant entry is unchanged
  abbrev pub IsModified : Entry K V eqs → Entry K V eqs → Type 0
  IsModified (Occupied o) e = ChangesItsValue o e
  IsModified (Vacant v) e = e ≡ Vacant v

module _ (K V : RattleType) {g : eq.Ghosts K.Denot} where
  -- the map ends with the value that is left behind the reference
  abbrev pub occupied_lends : OccupiedEntry K.Denot V.Denot g → MutBor V.Denot → Fml
  occupied_lends o r = follows (the_row K V g) V (occupied_map o).ghost_name r.ghost_name (written o)

  -- the entry ends with the value that is left behind the reference
  abbrev pub occupied_keeps : MutBor (OccupiedEntry K.Denot V.Denot g) → MutBor V.Denot → Fml
  occupied_keeps o r = follows (occupied.the_row (record { mir = named 1; lft = [] }) K V g) V o.ghost_name r.ghost_name (with_entry_value o.now)

  -- the map ends with the new entry and the value that is left behind the reference; or the insertion was refused
  abbrev pub vacant_lends : {E : Type 0} → VacantEntry K.Denot V.Denot g → Result (MutBor V.Denot) E → Fml
  vacant_lends v r = follows_so (the_row K V g) V (vacant_map v).ghost_name (name_if_ok (λ p. p.ghost_name) r) (λ w n. OnOk r (IsInserted (vacant_map v).now n (lacking_key v) w) × (IsOk r → Puts (Vacant v) w n)) (λ n. OnErr r (IsRefused (vacant_map v).now n) × (IsErr r → Refuses (Vacant v) n))

  -- the map ends with what is left behind the reference put at the entry; or the insertion was refused
  abbrev pub entry_lends : {E : Type 0} → Entry K.Denot V.Denot g → Result (MutBor V.Denot) E → Fml
  entry_lends e r = follows_so (the_row K V g) V (map_of_entry e).ghost_name (name_if_ok (λ p. p.ghost_name) r) (λ w n. OnOk r (IsPut e w n) × (IsOk r → Puts e w n)) (λ n. OnErr r (IsRefused (map_of_entry e).now n) × (IsErr r → Refuses e n))
