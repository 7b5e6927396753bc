-- Look-ups in a `SmallMap`: what a query finds under its own hash, and what a call leaves at its query and at all other keys.
-- Sets, ordered and sorted types cite these definitions too: a set is a map to `()`. All of them but `found`, `found_key` and
-- `AreOwnEntries` unfold by themselves in callers' proofs.
use Rattle.std.specs.Prelude.{◌≡◌, ℕ, ◌<◌, length, All, Bool, Contains, IfSome, List, Option, None, is_some, map, true}
use Rattle.std.specs.List.{sum_by}
use Rattle.std.specs.Hash as fed
use Rattle.std.specs.Hash.{HashWrites}
use Rattle.std.specs.Str.{bytes_eq}
use Rattle.std.specs.String.{string_bytes}
use Rattle.std.specs.declared.string.String.{String}
use Rattle.starlark_hash.specs.Hasher.{own_hash}
use Rattle.starlark_hash.specs.declared.hash_value.StarlarkHashValue.{StarlarkHashValue}
use Rattle.starlark_hash.specs.Entries.{Entry, entry_hash, entry_key, entry_value, position_of}
use Rattle.starlark_hash.specs.Lookup.{found, found_key, Writes}
use Rattle.starlark_small.specs.Map.{Map}

-- the keys of a map in order
abbrev pub keys : {K V : Type 0} → Map K V → List K
keys m = map entry_key m.entries

module _ {Q K V : Type 0} (equivalent : Q → K → Bool) (feeds : Q → HashWrites) where
  -- the value under the query's own hash whose key the query is equivalent to, if there is one
  abbrev pub get : Map K V → Q → Option V
  get m query = found (equivalent query) (own_hash feeds query) m.entries

  -- the stored key of that entry, if there is one
  abbrev pub get_key : Map K V → Q → Option K
  get_key m query = found_key (equivalent query) (own_hash feeds query) m.entries

  -- whether the map has a value at the query
  abbrev pub contains : Map K V → Q → Bool
  contains m query = is_some (get m query)

module _ {Q K V : Type 0} (eq : K → K → Bool) (equivalent : Q → K → Bool) (feeds : Q → HashWrites) where
  -- new has this value, or none, at the query under its own hash. At each key that the query is not equivalent to, under whatever
  -- hash, it has what old had
  abbrev pub UpdatesBy : Map K V → Map K V → Q → Option V → Type 0
  UpdatesBy old new query value = Writes eq (equivalent query) (own_hash feeds query) old.entries new.entries value

module _ {K V : Type 0} (eq : K → K → Bool) (feeds : K → HashWrites) where
  -- `UpdatesBy`, at a key under its own hash
  abbrev pub Updates : Map K V → Map K V → K → Option V → Type 0
  Updates old new key value = UpdatesBy eq eq feeds old new key value

module _ {K V : Type 0} (eq : K → K → Bool) where
  -- each key, under whatever hash, has what it had
  abbrev pub IsSameAt : Map K V → Map K V → Type 0
  IsSameAt old new = (under : StarlarkHashValue) (key : K) → found (eq key) under new.entries ≡ found (eq key) under old.entries

module _ {K V : Type 0} where
  -- no look-up finds a value
  abbrev pub IsEmpty : Map K V → Type 0
  IsEmpty m = (test : K → Bool) (hash : StarlarkHashValue) → found test hash m.entries ≡ None

  -- each key of the list is under its own hash. Callers' proofs never unfold this definition
  unfoldable pub AreOwnEntries : (K → HashWrites) → List (Entry K V) → Type 0
  AreOwnEntries feeds es = All (λ e. entry_hash e ≡ own_hash feeds (entry_key e)) es

  -- the sum of the measures of a list's values
  abbrev pub total_of : (V → ℕ) → List (Entry K V) → ℕ
  total_of measure es = sum_by measure (map entry_value es)

  -- each key of the map is under its own hash
  abbrev pub AreOwn : (K → HashWrites) → Map K V → Type 0
  AreOwn feeds m = AreOwnEntries feeds m.entries

  -- some key of the map passes the test
  abbrev pub HasKey : (K → Bool) → Map K V → Type 0
  HasKey test m = (key : K) × Contains (keys m) key × (test key ≡ true)

module _ {K V : Type 0} (test : K → Bool) (hash : StarlarkHashValue) (m : Map K V) where
  -- the index of the entry under the hash whose key passes the test, if there is one; it is below the length
  pub record NamesIndex (r : Option ℕ) : Type 0 where
    pub index : r ≡ position_of hash test m.entries
    pub found : is_some r ≡ is_some (found test hash m.entries)
    pub within : IfSome r (λ i. i < length m.entries)
    pub key : IfSome r (λ _. HasKey test m)

module _ {A V : Type 0} where
  -- the value at the string of these bytes, under its own hash, if there is one
  abbrev pub get_text : Map (String A) V → List ℕ → Option V
  get_text m text = get (λ q k. bytes_eq q (string_bytes k)) fed.str m text

  -- whether there is a value at the string of these bytes
  abbrev pub contains_text : Map (String A) V → List ℕ → Bool
  contains_text m text = is_some (get_text m text)
