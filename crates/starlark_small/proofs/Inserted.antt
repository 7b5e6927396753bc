-- A map after an insertion, with its new value written and read.
use Rattle.starlark_hash.proofs.Common.{common_steps, ◌≡◌, ℕ, ◌<◌, Bool, List, [], ◌∷◌, ◌++◌, length, slice_get, Some, None, is_some, ap, arith, refl, ◌||◌, nat_lt, option_map, length_push}
use Rattle.starlark_small.proofs.CallerRemove.{last_of}
use Rattle.starlark_hash.specs.declared.hashed.Hashed.{Hashed}
use Rattle.starlark_hash.specs.HashValue.{hash_of, key_of}
use Rattle.starlark_hash.specs.Lookup.{found}
use Rattle.starlark_hash.specs.Entries.{Entry, pair_of, set_value_at, value_at}
use Rattle.starlark_hash.proofs.EntryLemmas.{length-set_value_at}
use Rattle.starlark_small.specs.Index.{unindexed}
use Rattle.starlark_small.specs.Insert.{IsInserted, LeavesMemory}
use Rattle.starlark_small.specs.Map.{Map}

module _ {K V : Type 0} where
  -- the map with this value at the index
  abbrev pub with_value_at : Map K V → ℕ → V → Map K V
  with_value_at m i value = record m { entries = set_value_at m.entries i value }

  -- the last value, written and read
  pushed_value : (es : List (Entry K V)) (key : Hashed K) (v w : V) → set_value_at (es ++ (key, v) ∷ []) (length es) w ≡ es ++ (key, w) ∷ []
  pushed_value [] key v w = refl
  pushed_value (e ∷ es) key v w = ap (λ l. e ∷ l) (pushed_value es key v w)

module _ {K V : Type 0} (old new : Map K V) (key : Hashed K) (value : V) (i : ℕ) (at_end : i ≡ length old.entries) (put : IsInserted old new key value) where
  pub within_inserted : i < length new.entries
  within_inserted = omega (arith, at_end, ap length put.entries, length_push old.entries (key, value))

  pub inserted_written : (w : V) → IsInserted old (with_value_at new i w) key w
  inserted_written w = grind (arith, put.entries, put.spare, put.room, put.capacity, put.indexed, pushed_value old.entries key value w, length-set_value_at new.entries i w)

  pub value_inserted : (v : V) → value_at new.entries (Some i) ≡ Some v → v ≡ value
  value_inserted v e = grind (arith, common_steps, put.entries, last_of old.entries (key, value))

  pub inserted_shown : (k : K) (v : V) → option_map pair_of (slice_get new.entries i) ≡ Some (k, v) → (k ≡ key_of key) × (v ≡ value)
  inserted_shown k v e = (grind (arith, common_steps, put.entries, last_of old.entries (key, value)), grind (arith, common_steps, put.entries, last_of old.entries (key, value)))

-- the memory of a map whose list did not grow
module _ {K V : Type 0} (eq : K → K → Bool) (old : Map K V) (key : Hashed K) (short : old.indexed ≡ (old.indexed || nat_lt unindexed (length old.entries))) where
  -- the key was there, and its value was written
  pub LeavesMemory-written : (i : ℕ) (value : V) → LeavesMemory eq old (with_value_at old i value) key
  LeavesMemory-written i value = grind (arith, length-set_value_at old.entries i value)

-- the memory of a map after a new key was appended
module _ {K V : Type 0} (eq : K → K → Bool) (old : Map K V) (key : Hashed K) where
  pub LeavesMemory-inserted : (value : V) (new : Map K V) → found (eq (key_of key)) (hash_of key) old.entries ≡ None → IsInserted old new key value → LeavesMemory eq old new key
  LeavesMemory-inserted value new lacking put = grind (arith, ap is_some lacking, put.entries, put.spare, put.room, put.capacity, put.indexed, length_push old.entries (key, value))
