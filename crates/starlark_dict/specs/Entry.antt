-- What the contracts of a dictionary's `Entry` cite.
pub use Rattle.starlark_dict.specs.declared.dict.entry.Entry.TheVariants.{Occupied, Vacant}
use Rattle.std.proofs.Common.{subst, sym}
use Rattle.std.specs.Prelude.{◌≡◌, ℕ, ◌+◌, ◌<◌, Bool, ◌||◌, Option, Some, None, Result, MatchResult, IsErr, IsOk, OnOk, OnErr, [], ◌∷◌, ◌++◌, is_some, if◌then◌else◌, length, nat_lt, slice_get, ⊤}
use Rattle.std.specs.Borrow.{Fml, Lends, RattleType, MutBor, follows, follows_so, name_if_ok}
use Rattle.std.specs.Fn.{Once, FnOnceTakesAtMut, FnOnceReturnsAtMut}
use Rattle.std.specs.HashMap.Lent.{HashMembers}
use Rattle.std.specs.Option.{option_map}
use Rattle.std.specs.declared.cmp.PartialEq as eq
use Rattle.std.specs.declared.hash.Hash as hash
use Rattle.std_collections.specs.Layout.Columns.{length-set_value_at, set_value_at}
use Rattle.std_collections.specs.Layout.HashMap.{hash_map}
use mir.Syntax.{named}
use Rattle.starlark_hash.specs.declared.no_room.NoRoom.{NoRoom}
use Rattle.starlark_hash.specs.HashValue.{key_of}
use Rattle.starlark_small.specs.Index.{unindexed}
use Rattle.starlark_dict.specs.Dict.{Dict, KeepsRoom, IsUnchanged, IsUnique, StaysOrGrows, Updates, dict_len, get, index_of_by, insert_entry, memory, reserved_capacity, room}
use Rattle.starlark_dict.specs.Lend.{dict_row}
use Rattle.starlark_dict.specs.contracts.dict.Dict.{the_row}
use Rattle.starlark_dict.specs.contracts.dict.entry.OccupiedEntry as occupied
use Rattle.starlark_dict.specs.declared.dict.entry.Entry.{Entry}
use Rattle.starlark_dict.specs.declared.dict.entry.OccupiedEntry.{OccupiedEntry}
use Rattle.starlark_dict.specs.declared.dict.entry.VacantEntry.{VacantEntry}

module _ {K V : Type 0} where
  -- the dictionary with this value at the index
  abbrev pub with_value_at : Dict K V → ℕ → V → Dict K V
  with_value_at d i value = hash_map (set_value_at d.entries i value) (memory d) (room d)

  -- new is old with this pair appended. With room to spare, capacity and hash index stay. No room is lost, the capacity is that
  -- after a reservation for one new key, and there is a hash index if there was one or the list is now longer than the threshold
  pub record IsAppended (old new : Dict K V) (key : K) (value : V) : Type 0 where
    pub entries : new.entries ≡ old.entries ++ (key, value) ∷ []
    pub spare : 0 < room old → memory new ≡ memory old
    pub room : KeepsRoom old new
    pub capacity : (memory new).capacity ≡ reserved_capacity old 1
    pub indexed : (memory new).indexed ≡ ((memory old).indexed || nat_lt unindexed (dict_len old + 1))

  -- new is old after one new pair was refused: entries and hash index stay, no room is lost, and the capacity is the old one or that
  -- after a reservation for one
  pub record IsRefused (old new : Dict K V) : Type 0 where
    pub entries : IsUnchanged old new
    pub indexed : (memory new).indexed ≡ (memory old).indexed
    pub room : KeepsRoom old new
    pub capacity : StaysOrGrows 1 old new

module _ {K V : Type 0} {g : eq.Ghosts K} {h : hash.Ghosts K} where
  -- the lent dictionary that an occupied entry holds
  abbrev pub occupied_dict : OccupiedEntry K V g h → MutBor (Dict K V)
  occupied_dict o = o.dict

  -- the index of an occupied entry in that dictionary
  abbrev pub occupied_index : OccupiedEntry K V g h → ℕ
  occupied_index o = o.index

  -- the lent dictionary that a vacant entry holds
  abbrev pub vacant_dict : VacantEntry K V g h → MutBor (Dict K V)
  vacant_dict v = v.dict

  -- the key that is lacking
  abbrev pub lacking_key : VacantEntry K V g h → K
  lacking_key v = key_of v.key

  -- the lent dictionary that an entry holds
  abbrev pub dict_of_entry : Entry K V g h → MutBor (Dict K V)
  dict_of_entry (Occupied o) = occupied_dict o
  dict_of_entry (Vacant v) = vacant_dict v

  -- the entry that d has at the key, or the lack of one
  abbrev pub IsEntryOf : (K → K → Bool) → Dict K V → K → Entry K V g h → Type 0
  IsEntryOf eq d key (Occupied o) = ((occupied_dict o).now ≡ d) × (index_of_by (eq key) d ≡ Some (occupied_index o))
  IsEntryOf eq d key (Vacant v) = ((vacant_dict v).now ≡ d) × (get eq d key ≡ None) × (lacking_key v ≡ key)

  -- the key and the value at an occupied entry's index
  abbrev pub stored : OccupiedEntry K V g h → Option (K × V)
  stored o = slice_get (occupied_dict o).now.entries (occupied_index o)

  -- the value that is there, if any
  abbrev pub entry_value_of : Entry K V g h → Option V
  entry_value_of (Occupied o) = option_map (λ p. p.1) (stored o)
  entry_value_of (Vacant v) = None

  -- the key is the one that is there, or the one that is lacking
  abbrev pub IsKeyOf : Entry K V g h → K → Type 0
  IsKeyOf (Occupied o) key = option_map (λ p. p.0) (stored o) ≡ Some key
  IsKeyOf (Vacant v) key = key ≡ lacking_key v

  -- the dictionary, once this is the entry's value: all else is as it was
  abbrev pub written : OccupiedEntry K V g h → V → Dict K V
  written o value = with_value_at (occupied_dict o).now (occupied_index o) value

  -- what the dictionary is once this value was put under the entry: `written` where it was occupied, appended where it was vacant
  abbrev pub IsPut : Entry K V g h → V → Dict K V → Type 0
  IsPut (Occupied o) value d = d ≡ written o value
  IsPut (Vacant v) value d = IsAppended (vacant_dict v).now d (lacking_key v) value

  -- `IsPut` as a word that callers' proofs never unfold
  unfoldable pub Puts : Entry K V g h → V → Dict K V → Type 0
  Puts e value d = IsPut e value d

  -- there is no such entry
  abbrev pub IsVacant : Entry K V g h → Type 0
  IsVacant (Occupied o) = ⊥
  IsVacant (Vacant v) = ⊤

  -- what the dictionary is once a pair was refused under the entry, which was vacant; callers' proofs never unfold this word
  unfoldable pub Refuses : Entry K V g h → Dict K V → Type 0
  Refuses e d = IsVacant e × IsRefused (dict_of_entry e).now d

  -- the entry that the old dictionary has at the key, or the lack of one; and what the dictionary is once a value was put under it:
  -- as after an insertion of the key with this value. Where it was refused, the entries stay
  pub record Enters (eq : K → K → Bool) (old : Dict K V) (key : K) (e : Entry K V g h) : Type 0 where
    pub entry : IsEntryOf eq old key e
    pub value : entry_value_of e ≡ get eq old key
    pub updates : (value : V) (new : Dict K V) → Puts e value new → Updates eq old new key (Some value)
    pub entries : (value : V) (new : Dict K V) → Puts e value new → new.entries ≡ insert_entry eq old.entries key value
    pub len : (value : V) (new : Dict K V) → Puts e value new → dict_len new ≡ dict_len old + (if is_some (get eq old key) then 0 else 1)
    pub room : (value : V) (new : Dict K V) → Puts e value new → KeepsRoom old new
    pub unique : (value : V) (new : Dict K V) → Puts e value new → IsUnique eq new
    pub refused : (new : Dict K V) → Refuses e new → IsUnchanged old new

  -- r shows the value that is there, or one that may be given; an `Err` is of a vacant entry alone, and hands the key back with
  -- such a value
  abbrev pub ShowsOrGives : (V → Type 0) → Entry K V g h → Result (MutBor V) (NoRoom (K × V)) → Type 0
  ShowsOrGives gives (Occupied o) r = MatchResult r (λ p. option_map (λ q. q.1) (stored o) ≡ Some p.now) (λ _. ⊥)
  ShowsOrGives gives (Vacant v) r = MatchResult r (λ p. gives p.now) (λ back. (back.0.0 ≡ lacking_key v) × gives back.0.1)

  -- the index of an entry stays within the list, whatever value is there
  pub still_within : (o : OccupiedEntry K V g h) (value : V) → occupied_index o < length (written o value).entries
  still_within o value = subst (λ n. occupied_index o < n) (sym (length-set_value_at (occupied_dict o).now.entries (occupied_index o) value)) o.within

  -- the entry, once this is its value: all else is as it was
  abbrev pub with_entry_value : OccupiedEntry K V g h → V → OccupiedEntry K V g h
  with_entry_value o value = record { dict = record (occupied_dict o) { now = written o value }; index = occupied_index o; within = still_within o value }

module _ {F K V : Type 0} {eqs : eq.Ghosts K} {hashes : hash.Ghosts K} (g : Once F (MutBor V × Unit {0}) (⊤ × (MutBor V × Unit {0}))) (f : F) where
  -- f may be called at a `&mut` to the value that is there, if any
  abbrev pub TakesItsValue : Entry K V eqs hashes → Type 0
  TakesItsValue e = (value : V) → entry_value_of e ≡ Some value → FnOnceTakesAtMut g f value

  -- f was called once at the value that is there and left another one, and e is the entry with that
  pub record ChangesItsValue (o : OccupiedEntry K V eqs hashes) (e : Entry K V eqs hashes) : Type 0 where
    pub old : V
    pub new : V
    pub there : option_map (λ p. p.1) (stored o) ≡ Some old
    pub called : FnOnceReturnsAtMut g f old tt new
    pub entry : e ≡ Occupied (with_entry_value o new)

  -- f changed the value, or there was none and e is the entry as it was
  abbrev pub IsModified : Entry K V eqs hashes → Entry K V eqs hashes → Type 0
  IsModified (Occupied o) e = ChangesItsValue o e
  IsModified (Vacant v) e = e ≡ Vacant v

module _ (K V : RattleType) (keys : HashMembers K.Denot) (d : MutBor (Dict K.Denot V.Denot)) where
  -- the dictionary ends with the value that is left behind the reference, at the index
  abbrev pub lends_value : ℕ → MutBor V.Denot → Fml
  lends_value i r = Lends (dict_row K V keys) V d r (with_value_at d.now i)

  -- the dictionary has the new pair with the value that is left behind the reference; refused, it has the entries that it had
  abbrev pub lends_new : {E : Type 0} → K.Denot → Result (MutBor V.Denot) E → Fml
  lends_new key r = follows_so (dict_row K V keys) V d.ghost_name (name_if_ok (λ p. p.ghost_name) r) (λ w n. OnOk r (IsAppended d.now n key w)) (λ n. OnErr r (IsRefused d.now n))

module _ (K V : RattleType) {g : eq.Ghosts K.Denot} {h : hash.Ghosts K.Denot} where
  -- the dictionary ends with the value that is left behind the reference
  abbrev pub occupied_lends : OccupiedEntry K.Denot V.Denot g h → MutBor V.Denot → Fml
  occupied_lends o r = follows (the_row K V g h) V (occupied_dict o).ghost_name r.ghost_name (written o)

  -- the entry ends with the value that is left behind the reference
  abbrev pub occupied_keeps : MutBor (OccupiedEntry K.Denot V.Denot g h) → MutBor V.Denot → Fml
  occupied_keeps o r = follows (occupied.the_row (record { mir = named 1; lft = [] }) K V g h) V o.ghost_name r.ghost_name (with_entry_value o.now)

  -- the dictionary has the new pair with the value that is left behind the reference; refused, it has the entries that it had
  abbrev pub vacant_lends : {E : Type 0} → VacantEntry K.Denot V.Denot g h → Result (MutBor V.Denot) E → Fml
  vacant_lends v r = follows_so (the_row K V g h) V (vacant_dict v).ghost_name (name_if_ok (λ p. p.ghost_name) r) (λ w n. OnOk r (IsAppended (vacant_dict v).now n (lacking_key v) w) × (IsOk r → Puts (Vacant v) w n)) (λ n. OnErr r (IsRefused (vacant_dict v).now n) × (IsErr r → Refuses (Vacant v) n))

  -- the dictionary ends with what is left behind the reference put under the entry; refused, it has the entries that it had
  abbrev pub entry_lends : {E : Type 0} → Entry K.Denot V.Denot g h → Result (MutBor V.Denot) E → Fml
  entry_lends e r = follows_so (the_row K V g h) V (dict_of_entry e).ghost_name (name_if_ok (λ p. p.ghost_name) r) (λ w n. OnOk r (IsPut e w n) × (IsOk r → Puts e w n)) (λ n. OnErr r (IsRefused (dict_of_entry e).now n) × (IsErr r → Refuses e n))
