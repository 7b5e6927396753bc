-- Lists of entries: what look-ups find in them, and what insertions and removals make of them. Indices count from 0.
use Rattle.std.specs.Prelude.{◌≡◌, ℕ, zero, suc, Bool, false, ◌&&◌, ◌==◌, List, [], ◌∷◌, Option, AllPairs, position, remove, slice_get}
use Rattle.std.specs.Option.{option_map, option_map_or, option_and_then}
use Rattle.starlark_hash.specs.declared.hash_value.StarlarkHashValue.{StarlarkHashValue}
use Rattle.starlark_hash.specs.declared.hashed.Hashed.{Hashed}
use Rattle.starlark_hash.specs.HashValue.{hash_number, hash_of, key_of}

-- a key with its hash, and its value: the pair that public calls take and return
abbrev pub Entry : Type 0 → Type 0 → Type 0
Entry K V = Hashed K × V

module _ {K V : Type 0} where
  -- an entry's hash
  abbrev pub entry_hash : Entry K V → StarlarkHashValue
  entry_hash e = hash_of e.0

  -- an entry's key
  abbrev pub entry_key : Entry K V → K
  entry_key e = key_of e.0

  -- an entry's value
  abbrev pub entry_value : Entry K V → V
  entry_value e = e.1

  -- an entry's key and value
  abbrev pub pair_of : Entry K V → K × V
  pair_of e = (entry_key e, entry_value e)

  -- whether the entry is stored under this hash
  abbrev pub is_under : StarlarkHashValue → Entry K V → Bool
  is_under hash e = hash_number (entry_hash e) == hash_number hash

  -- whether the entry is stored under this hash and its key passes the test
  abbrev pub stands_under : StarlarkHashValue → (K → Bool) → Entry K V → Bool
  stands_under hash passes e = is_under hash e && passes (entry_key e)

  -- the first index whose entry is stored under this hash and whose key passes the test
  abbrev pub position_of : StarlarkHashValue → (K → Bool) → List (Entry K V) → Option ℕ
  position_of hash passes es = position (stands_under hash passes) es

  -- the entry at the index; none if there is no index
  abbrev pub entry_at : List (Entry K V) → Option ℕ → Option (Entry K V)
  entry_at es index = option_and_then (slice_get es) index

  -- the value at the index; none if there is no index
  abbrev pub value_at : List (Entry K V) → Option ℕ → Option V
  value_at es index = option_map entry_value (entry_at es index)

  -- the list with this value at the index
  abbrev pub set_value_at : List (Entry K V) → ℕ → V → List (Entry K V)
  set_value_at [] i value = []
  set_value_at (e ∷ es) zero value = (e.0, value) ∷ es
  set_value_at (e ∷ es) (suc i) value = e ∷ set_value_at es i value

  -- the list with this value at the index; if there is no index, the list itself
  abbrev pub with_value : List (Entry K V) → Option ℕ → V → List (Entry K V)
  with_value es index value = option_map_or (λ i. set_value_at es i value) index es

  -- the list without the entry at the index; if there is no index, the list itself
  abbrev pub without : List (Entry K V) → Option ℕ → List (Entry K V)
  without es index = option_map_or (remove es) index es

module _ {K V : Type 0} (eq : K → K → Bool) where
  -- the first index with this hash and an equal key
  abbrev pub match_of : List (Entry K V) → Hashed K → Option ℕ
  match_of es key = position_of (hash_of key) (eq (key_of key)) es

  -- no two entries have the same hash and equal keys
  abbrev pub IsSingle : List (Entry K V) → Type 0
  IsSingle es = AllPairs (λ d e. stands_under (entry_hash d) (eq (entry_key d)) e ≡ false) es
