-- A hash that the first group of the hash index shows to be new: no entry has it, and its entry is appended without growth.
use Rattle.starlark_hash.proofs.Common.{common_steps, ◌≡◌, ◌≢◌, ℕ, ◌-◌, Bool, [], ◌∷◌, ◌++◌, length, Option, Some, None, refl, sym, subst, arith, IsEquivalence, nat_tests, get_or-map, length-map, length_push, All}
use Rattle.starlark_small.proofs.CallerLookup.{none_among, none_found}
use Rattle.starlark_hash.specs.HashValue.{hash_of, key_of}
use Rattle.starlark_hash.specs.declared.hashed.Hashed.{Hashed}
use Rattle.starlark_hash.specs.Entries.{Entry, entry_hash, match_of, stands_under}
use Rattle.starlark_hash.proofs.EntryLemmas.{IsSingle-push}
use Rattle.starlark_small.specs.Hashes.{Hashes, hash_under}
use Rattle.starlark_small.specs.IndexCalls.{IsNotedIn}
use Rattle.starlark_small.specs.Index.{IsIndexed, IsSound, map_of}
use Rattle.starlark_hash.specs.Lookup.{found}
use Rattle.starlark_small.specs.Insert.{IsInserted}
use Rattle.starlark_small.specs.Map.{Map}
use Rattle.starlark_small.proofs.Indexed.{IsIndexed-noted}
use Rattle.starlark_vecmap.specs.EntryList.{EntryList, with_entries}

-- a new key whose hash was appended at once, with room in the list
module _ {K V : Type 0} (eq : K → K → Bool) (laws : IsEquivalence eq) (list new : EntryList K V) (before after : Option Hashes) (key : Hashed K) (value : V) (sound : IsSound eq list.entries before) (noting : IsNotedIn (hash_of key) (list.capacity - length list.entries) before after)
    (is : new ≡ with_entries list (list.entries ++ (key, value) ∷ [])) where
  index : IsIndexed list.entries (Some noting.hashes)
  index = subst (IsIndexed list.entries) noting.there sound.indexed

  absent : match_of eq list.entries key ≡ None
  absent = none_among (stands_under (hash_of key) (eq (key_of key))) list.entries (λ k d below.
      let H : Entry K V → ℕ = λ e. hash_under (entry_hash e) in
      let apart = subst (All (λ h. h ≢ hash_under (hash_of key))) index.list noting.lacked k (H d) (omega (arith, below, length-map list.entries H)) in
      let here = get_or-map H list.entries k d (H d) below in grind (arith, common_steps))

  pub sound_at_once : IsSound eq new.entries after
  sound_at_once = subst (λ l. IsSound eq l.entries after) (sym is) (record {
    single = IsSingle-push eq laws list.entries key value sound.single absent;
    indexed = subst (IsIndexed (list.entries ++ (key, value) ∷ [])) (sym noting.noted) (IsIndexed-noted list.entries (key, value) (hash_of key) (Some noting.hashes) refl (omega (arith, noting.room)) noting.fits index);
  })

  -- the key was lacking, and the entry is the last now
  pub inserted_at_once : (old : Map K V) → map_of list before ≡ old → (found (eq (key_of key)) (hash_of key) old.entries ≡ None) × IsInserted old (map_of new after) key value
  inserted_at_once old view =
      let put : IsInserted (map_of list before) (map_of new after) key value = rw (is, noting.there, noting.noted) (grind (arith, common_steps, nat_tests, noting.spare, noting.room, length_push list.entries (key, value))) in
      subst (λ m. (found (eq (key_of key)) (hash_of key) m.entries ≡ None) × IsInserted m (map_of new after) key value) view
      (none_found (eq (key_of key)) (hash_of key) list.entries absent, put)
