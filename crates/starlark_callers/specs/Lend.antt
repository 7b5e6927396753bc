-- What the callers' contracts cite: a value that is put under a key, and what an `OrderedMap` ends as after it.
use Rattle.std.specs.Prelude.{Bool, ◌≡◌, Some, None, IsSome, Result}
use Rattle.starlark_hash.specs.declared.hashed.Hashed.{Hashed}
use Rattle.starlark_hash.specs.Entries.{match_of, with_value}
use Rattle.starlark_small.specs.Map.{Map}
use Rattle.std.specs.Borrow.{Fml, RattleType, MutBor, LendsSoOk}
use Rattle.std.specs.declared.cmp.PartialEq as eq
use Rattle.starlark_hash.specs.HashValue.{hash_of, key_of}
use Rattle.starlark_hash.specs.Lookup.{found, Writes}
use Rattle.starlark_hash.specs.Insert.{insert_entry}
use Rattle.starlark_small.specs.Insert.{IsInserted, IsRefused}
use Rattle.starlark_sets.specs.contracts.ordered_map.OrderedMap.{the_row}

-- the map with this value under a key, where it has one; else the map
abbrev pub with_value_under : {K V : Type 0} → (K → K → Bool) → Map K V → Hashed K → V → Map K V
with_value_under eq m key value = record m { entries = with_value m.entries (match_of eq m.entries key) value }

module _ {K V : Type 0} (eq : K → K → Bool) where
  -- new is old with this value under the key: where the key is there, at its index, and all else stays; else the entry is appended.
  -- So a look-up finds the value at the key, and at all other keys what it found
  pub record IsPutUnder (old new : Map K V) (key : Hashed K) (value : V) : Type 0 where
    pub written : IsSome (found (eq (key_of key)) (hash_of key) old.entries) → new ≡ with_value_under eq old key value
    pub inserted : found (eq (key_of key)) (hash_of key) old.entries ≡ None → IsInserted old new key value
    pub entries : new.entries ≡ insert_entry eq old.entries key value
    pub updates : Writes eq (eq (key_of key)) (hash_of key) old.entries new.entries (Some value)

module _ (K V : RattleType) (g : eq.Ghosts K.Denot) (s : MutBor (Map K.Denot V.Denot)) where
  -- the ordered map ends with what is left behind the reference put under the key; refused, it has the entries that it had
  abbrev pub lends_at : {E : Type 0} → Hashed K.Denot → Result (MutBor V.Denot) E → Fml
  lends_at key r = LendsSoOk (the_row K V g) V s r (λ n w. IsPutUnder g.eq s.now n key w) (λ n. IsRefused s.now n)
