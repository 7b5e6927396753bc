-- What a look-up finds in a list of entries, by a hash and a test of the keys.
use Rattle.std.specs.Prelude.{◌≡◌, Bool, false, List, Option, ℕ}
use Rattle.std.specs.Option.{option_map, unwrap_or}
use Rattle.starlark_hash.specs.declared.hash_value.StarlarkHashValue.{StarlarkHashValue}
use Rattle.starlark_hash.specs.Entries.{Entry, entry_at, entry_key, position_of, value_at}

module _ {K V : Type 0} (test : K → Bool) (hash : StarlarkHashValue) where
  -- the value of the first entry that is stored under this hash and whose key passes the test. Proofs of callers never
  -- unfold this definition
  unfoldable pub found : List (Entry K V) → Option V
  found es = value_at es (position_of hash test es)

  -- the stored key of the first entry that is stored under this hash and whose key passes the test. Proofs of callers
  -- never unfold this definition
  unfoldable pub found_key : List (Entry K V) → Option K
  found_key es = option_map entry_key (entry_at es (position_of hash test es))

module _ {K V : Type 0} (eq : K → K → Bool) where
  -- under this hash and by this test the new list has this value, or none; for each key that fails the test, under any
  -- hash, it has what the old list had
  abbrev pub Writes : (K → Bool) → StarlarkHashValue → List (Entry K V) → List (Entry K V) → Option V → Type 0
  Writes test hash old new value = (found test hash new ≡ value)
      × ((under : StarlarkHashValue) (other : K) → test other ≡ false → found (eq other) under new ≡ found (eq other) under old)

-- the measure of the value; 0 if there is none
abbrev pub weight_of : {V : Type 0} → (V → ℕ) → Option V → ℕ
weight_of measure value = unwrap_or (option_map measure value) 0
