-- What a `SmallMap` is once a reference into it has ended.
use Rattle.std.specs.Prelude.{◌≡◌, ℕ, Bool, List, Option, Some, IsSome, is_some, Result, Ok, Err, OnOk, OnErr, length, map}
use Rattle.std.specs.Borrow.{Fml, RattleType, Bor, MutBor, GName, Lends, LendsSo, follows, follows_so, name_if_ok}
use Rattle.std.specs.Hash.{HashWrites}
use Rattle.std.specs.declared.cmp.PartialEq as eq
use Rattle.starlark_hash.specs.HashValue.{key_of}
use Rattle.starlark_hash.specs.declared.hash_value.StarlarkHashValue.{StarlarkHashValue}
use Rattle.starlark_hash.specs.declared.hashed.Hashed.{Hashed}
use Rattle.starlark_hash.specs.declared.no_room.NoRoom.{NoRoom}
use Rattle.starlark_hash.specs.Entries.{Entry, entry_key, position_of, set_value_at, with_value}
use Rattle.starlark_hash.specs.Lookup.{found, Writes}
use Rattle.starlark_vecmap.specs.EntryList.{with_values}
use Rattle.starlark_small.specs.Lookup.{keys, AreOwn, AreOwnEntries}
use Rattle.starlark_small.specs.Insert.{IsInserted, IsRefused}
use Rattle.starlark_small.specs.Map.{Map}
use Rattle.starlark_small.specs.contracts.small_map.SmallMap.{the_row}

-- the result of an insertion, with a refused key that comes back without its hash
abbrev pub unhashed : {T K V : Type 0} → Result T (NoRoom (Hashed K × V)) → Result T (NoRoom (K × V))
unhashed (Ok x) = Ok x
unhashed (Err e) = Err (record { 0 = (key_of e.0.0, e.0.1) })

module _ {K V : Type 0} (eq : K → K → Bool) where
  -- whatever values are written to the map, its keys stay in their order, and their number stays; each key, under whatever hash, is
  -- there exactly if it was; and keys under their own hashes stay so
  pub record KeepsAllButValues (m : Map K V) : Type 0 where
    pub keys : (ws : List (Entry K V)) → map entry_key (with_values m.entries ws) ≡ keys m
    pub length : (ws : List (Entry K V)) → length (with_values m.entries ws) ≡ length m.entries
    pub members : (ws : List (Entry K V)) (under : StarlarkHashValue) (key : K) → is_some (found (eq key) under (with_values m.entries ws)) ≡ is_some (found (eq key) under m.entries)
    pub own : (ws : List (Entry K V)) (feeds : K → HashWrites) → AreOwn feeds m → AreOwnEntries feeds (with_values m.entries ws)

module _ (K V : RattleType) (g : eq.Ghosts K.Denot) (s : MutBor (Map K.Denot V.Denot)) where
  -- the map ends with what is left behind a reference to the value at the index, and all else is unchanged
  abbrev pub lends_value : ℕ → MutBor V.Denot → Fml
  lends_value i r = Lends (the_row K V g) V s r (λ w. record s.now { entries = set_value_at s.now.entries i w })

  -- the value that a test finds under a hash ends as what is left behind the reference. All else is unchanged: what look-ups find at
  -- other keys, the keys in their order, and which are under their own hashes. If the value is left as it was, or if there is none,
  -- the map is as it was
  abbrev pub lends_get : (K.Denot → Bool) → StarlarkHashValue → Option (MutBor V.Denot) → Fml
  lends_get test hash r = LendsSo (the_row K V g) V s r
      (λ n w. (n ≡ record s.now { entries = with_value s.now.entries (position_of hash test s.now.entries) w }) × (keys n ≡ keys s.now)
      × (IsSome (found test hash s.now.entries) → Writes g.eq test hash s.now.entries n.entries (Some w))
      × ((feeds : K.Denot → HashWrites) → AreOwn feeds s.now → AreOwn feeds n) × (found test hash s.now.entries ≡ Some w → n ≡ s.now))
      (λ n. n ≡ s.now)

  -- the map ends with the values that the loan of this name ends with, each at its index, and all else is unchanged
  abbrev pub values_follow : GName → Fml
  values_follow γ = follows (the_row K V g) (the_row K V g) s.ghost_name γ (λ w. record s.now { entries = with_values s.now.entries w.entries })

  -- the map ends with the new entry appended, with the value that is left behind the reference; or the insertion was refused
  abbrev pub lends_inserted : {E : Type 0} → Hashed K.Denot → Result (Bor K.Denot × MutBor V.Denot) E → Fml
  lends_inserted key r =
      follows_so (the_row K V g) V s.ghost_name (name_if_ok (λ p. p.1.ghost_name) r) (λ w n. OnOk r (IsInserted s.now n key w)) (λ n. OnErr r (IsRefused s.now n))

  -- `lends_inserted`, if only a reference to the value is lent
  abbrev pub lends_new : {E : Type 0} → Hashed K.Denot → Result (MutBor V.Denot) E → Fml
  lends_new key r =
      follows_so (the_row K V g) V s.ghost_name (name_if_ok (λ p. p.ghost_name) r) (λ w n. OnOk r (IsInserted s.now n key w)) (λ n. OnErr r (IsRefused s.now n))
