-- How `Hashed` keys, entries and lists of entries compare, and what they feed to a hasher.
use Rattle.std.specs.Prelude.{Bool, nat_eq, ℕ, ◌==◌, ◌&&◌, ◌++◌, List}
use Rattle.std.specs.Ordering.{nat_cmp, on, then_cmp, eq_of_both}
use Rattle.std.specs.declared.cmp.Ordering.{Ordering}
use Rattle.starlark_hash.specs.declared.hashed.Hashed.{Hashed}
use Rattle.starlark_hash.specs.HashValue.{hash_number, hash_of, key_of}
use Rattle.std.specs.List.{flat_map}
use Rattle.std.specs.Cmp.Lexicographic.{pointwise}
use Rattle.std.specs.Hash as fed
use Rattle.starlark_hash.specs.Entries.{Entry, entry_hash, entry_key, entry_value}

module _ {K : Type 0} where
  -- whether two `Hashed` keys have equal hashes and equal keys
  abbrev pub hashed_eq : (K → K → Bool) → Hashed K → Hashed K → Bool
  hashed_eq eq = eq_of_both (on (λ h. hash_number (hash_of h)) nat_eq) (on key_of eq)

  -- how two `Hashed` keys compare: by the keys, and then by the hashes
  abbrev pub hashed_cmp : (K → K → Ordering) → Hashed K → Hashed K → Ordering
  hashed_cmp cmp = then_cmp (on key_of cmp) (on (λ h. hash_number (hash_of h)) nat_cmp)

module _ {K V : Type 0} where
  -- whether two entries have the same hash, equal keys and equal values
  abbrev pub same_entry : (K → K → Bool) → (V → V → Bool) → Entry K V → Entry K V → Bool
  same_entry key_eq value_eq d e = (hash_number (entry_hash d) == hash_number (entry_hash e)) && (key_eq (entry_key d) (entry_key e) && value_eq (entry_value d) (entry_value e))

  -- whether two lists have the same length and, item by item, the same entries
  abbrev pub same_ordered : (K → K → Bool) → (V → V → Bool) → List (Entry K V) → List (Entry K V) → Bool
  same_ordered key_eq value_eq = pointwise (same_entry key_eq value_eq)

  -- what an entry feeds to a hasher: its hash as one number of 32 bits, and then what its value feeds
  abbrev pub entry_feed : (V → List (List ℕ)) → Entry K V → List (List ℕ)
  entry_feed value_feed e = fed.u32 (hash_number (entry_hash e)) ++ value_feed (entry_value e)

  -- what a list feeds to a hasher: each entry in turn, without the length and without the keys
  abbrev pub ordered_feed : (V → List (List ℕ)) → List (Entry K V) → List (List ℕ)
  ordered_feed value_feed = flat_map (entry_feed value_feed)
