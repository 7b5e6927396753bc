-- The definitions by which callers describe an `UnorderedMap` and an `UnorderedSet`. They have the names of those for a
-- `SmallMap`, and speak of pairs, without a hash.
unfoldable pub use Rattle.starlark_unordered.specs.Pairs.{found}
use Rattle.std.specs.Prelude.{◌≡◌, ◌+◌, ℕ, Bool, false, List, Option, None, is_some}
use Rattle.std.specs.List.{sum_by}
use Rattle.std.specs.Map.{values_of}
use Rattle.std.specs.Hash.{HashWrites}
use Rattle.std.specs.Str.{bytes_eq}
use Rattle.std.specs.String.{string_bytes}
use Rattle.std.specs.declared.string.String.{String}
use Rattle.starlark_hash.specs.HashValue.{hash_of, key_of}
use Rattle.starlark_hash.specs.Lookup.{weight_of}
use Rattle.starlark_hash.specs.declared.hashed.Hashed.{Hashed}
use Rattle.starlark_table.specs.Table.{Table}
use Rattle.starlark_unordered.specs.Pairs.{pairs_of, under_own}

module _ {Q K V : Type 0} (equivalent : Q → K → Bool) where
  -- the value at the key that a query stands for
  abbrev pub get : Table (K × V) → Q → Option V
  get m query = found (equivalent query) (pairs_of m)

  -- whether the map has a value at the query
  abbrev pub contains : Table (K × V) → Q → Bool
  contains m query = is_some (get m query)

  -- the value at the key that a query stands for, if the supplied hash is that key's own
  abbrev pub get_under : (K → HashWrites) → Table (K × V) → Hashed Q → Option V
  get_under feeds m query = found (under_own feeds (hash_of query) (equivalent (key_of query))) (pairs_of m)

module _ {K V : Type 0} (eq : K → K → Bool) where
  -- new has this value, or none, for the key that passes; for each other key it has what old had
  abbrev pub Writes : (K → Bool) → Table (K × V) → Table (K × V) → Option V → Type 0
  Writes test old new value = (found test (pairs_of new) ≡ value)
      × ((other : K) → test other ≡ false → found (eq other) (pairs_of new) ≡ found (eq other) (pairs_of old))

  -- new has this value, or none, at the key; at each other key it has what old had
  abbrev pub Updates : Table (K × V) → Table (K × V) → K → Option V → Type 0
  Updates old new key value = Writes (eq key) old new value

-- no look-up finds a value
abbrev pub IsEmpty : {K V : Type 0} → Table (K × V) → Type 0
IsEmpty {K = K} m = (test : K → Bool) → found test (pairs_of m) ≡ None

-- the value at the string with these bytes
abbrev pub get_text : {A V : Type 0} → Table (String A × V) → List ℕ → Option V
get_text m text = found (λ k. bytes_eq text (string_bytes k)) (pairs_of m)

-- the total weight of the values of some pairs, in any order
abbrev pub total_of : {K V : Type 0} → (V → ℕ) → List (K × V) → ℕ
total_of measure ps = sum_by measure (values_of ps)

-- by any measure, the values of new weigh what those of old weigh, with `value` in place of `was`; either may be absent
abbrev pub Trades : {K V : Type 0} → Table (K × V) → Table (K × V) → Option V → Option V → Type 0
Trades {V = V} old new was value = (measure : V → ℕ) → total_of measure (pairs_of new) + weight_of measure was ≡ total_of measure (pairs_of old) + weight_of measure value
