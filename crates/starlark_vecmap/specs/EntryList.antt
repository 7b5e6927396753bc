-- A list of entries with a capacity, and what the calls of a `VecMap` make of it.
use Rattle.std.specs.Prelude.{ℕ, List, [], ◌∷◌, ◌++◌, map, zip}
use Rattle.std.specs.Borrow.{Bor, MutBor}
use Rattle.starlark_hash.specs.declared.hashed.Hashed.{Hashed}
use Rattle.starlark_hash.specs.Entries.{Entry}
use Rattle.starlark_hash.specs.HashValue.{hash_value, hashed, hash_of, key_of}
use Rattle.starlark_vec2.specs.PairList.{PairList, pair_list}
use Rattle.starlark_vec2.specs.Growth.{reserved_capacity}

-- the entries in order, and how many of them there may be before the list grows. Nothing prevents two entries with the
-- same hash and equal keys
pub record EntryList (K V : Type 0) : Type 0 where
  pub entries : List (Entry K V)
  pub capacity : ℕ

module _ {K V : Type 0} where
  -- these entries and this capacity
  abbrev pub entry_list : List (Entry K V) → ℕ → EntryList K V
  entry_list es n = record { entries = es; capacity = n }

  -- the list with these entries and its own capacity
  abbrev pub with_entries : EntryList K V → List (Entry K V) → EntryList K V
  with_entries m es = entry_list es m.capacity

  -- the list as a list of pairs of a `Hashed` key and a value, by whose rules its capacity grows
  abbrev pub as_pairs : EntryList K V → PairList (Hashed K) V
  as_pairs m = pair_list m.entries m.capacity

  -- the list after room was reserved for n further entries
  abbrev pub reserve : EntryList K V → ℕ → EntryList K V
  reserve m n = entry_list m.entries (reserved_capacity (as_pairs m) n)

  -- the list after this entry was appended
  abbrev pub push : EntryList K V → Entry K V → EntryList K V
  push m e = entry_list (m.entries ++ e ∷ []) (reserved_capacity (as_pairs m) 1)

  -- the entry of a key, a value and the number of the key's hash
  abbrev pub entry_of : (K × V) × ℕ → Entry K V
  entry_of p = (hashed (hash_value p.1) p.0.0, p.0.1)

  -- the entries of two columns: one of keys and values, one of the numbers of the keys' hashes
  abbrev pub entries_in : List (K × V) → List ℕ → List (Entry K V)
  entries_in pairs hashes = map entry_of (zip pairs hashes)

  -- the entries of es, each with the value that ws has at the same index, and with its own key and hash
  abbrev pub with_values : List (Entry K V) → List (Entry K V) → List (Entry K V)
  with_values [] ws = []
  with_values (e ∷ es) [] = e ∷ with_values es []
  with_values (e ∷ es) (w ∷ ws) = (e.0, w.1) ∷ with_values es ws

  -- what a `(Hashed<&K>, &V)` points to
  abbrev pub deref_entry : Hashed (Bor K) × Bor V → Entry K V
  deref_entry p = (hashed (hash_of p.0) (key_of p.0).now, p.1.now)

  -- what a `(Hashed<&K>, &mut V)` points to
  abbrev pub deref_entry_mut : Hashed (Bor K) × MutBor V → Entry K V
  deref_entry_mut p = (hashed (hash_of p.0) (key_of p.0).now, p.1.now)
