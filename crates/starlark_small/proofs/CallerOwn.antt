-- Keys under their own hashes stay so after insertions, removals and permutations.
use Rattle.starlark_hash.proofs.Common.{take, drop, All-append, ◌<◌, length, get_or, ◌≡◌, ℕ, suc, Bool, List, [], ◌∷◌, ◌++◌, map, remove, Some, None, IsPermutation, refl, sym, ◌∙◌, subst, arith, Bor, MutBor, Mut, HashWrites, All, AllZip, option_map_or, All-head, All-map, All-push, All-tail, AllZip-get_or, length_all_zip, All-permutation}
use Rattle.std.proofs.lemmas.List.Elements.{All-nil, All-take, All-drop}
use Rattle.starlark_hash.specs.declared.hashed.Hashed.{Hashed}
use Rattle.starlark_hash.specs.Hasher.{own_hash}
use Rattle.starlark_hash.specs.HashValue.{hash_of, key_of}
use Rattle.starlark_hash.specs.Clone.{IsEntryClone}
use Rattle.starlark_hash.specs.Entries.{Entry, entry_hash, entry_key, match_of, set_value_at}
use Rattle.starlark_hash.specs.Insert.{insert_entry}
use Rattle.starlark_hash.proofs.EntryLemmas.{length-set_value_at, set_value_at-key}
use Rattle.starlark_hash.specs.Retain.{CalledAtEntry, Retains}
use Rattle.starlark_vecmap.specs.EntryList.{with_values}
use Rattle.starlark_vecmap.proofs.WrittenValues.{hashed_keys-with_values, length-with_values}
use Rattle.starlark_small.specs.Along.{key-at}
use Rattle.starlark_small.specs.Lookup.{AreOwnEntries}
use Rattle.starlark_small.specs.Collect.{insert_all, own_entry}
use Rattle.starlark_small.proofs.CallerLookup.{empty-found}
use Rattle.starlark_small.proofs.Retained.{all_retained}

module _ {K V : Type 0} (feeds : K → HashWrites) where
  -- the entry is under its key's own hash
  abbrev is_own : Entry K V → Type 0
  is_own e = entry_hash e ≡ own_hash feeds (entry_key e)

  insert_own : (eq : K → K → Bool) (es : List (Entry K V)) (key : Hashed K) (value : V) → hash_of key ≡ own_hash feeds (key_of key) → All is_own es → All is_own (insert_entry eq es key value)
  insert_own eq es key value is own = elim (match_of eq es key) as (λ o. All is_own (option_map_or (λ i. set_value_at es i value) o (es ++ (key, value) ∷ []))) [
    | None ↦ All-push is_own es (key, value) own is
    | Some i ↦ λ k d below. simp set_value_at-key (own k d (omega (arith, length-set_value_at es i value)))
  ]

  insert_entries_own : (eq : K → K → Bool) (items es : List (Entry K V)) → All is_own items → All is_own es → All is_own (insert_all eq es items)
  insert_entries_own eq [] es all own = own
  insert_entries_own eq (x ∷ xs) es all own =
      insert_entries_own eq xs (insert_entry eq es x.0 x.1) (All-tail is_own x xs all) (insert_own eq es x.0 x.1 (All-head is_own x xs all) own)

  pub own-empty : (es : List (Entry K V)) → es ≡ [] → AreOwnEntries feeds es
  unfolding AreOwnEntries
  own-empty es none = subst (All is_own) (sym none) (All-nil is_own)

  pub own-same : (old new : List (Entry K V)) → new ≡ old → AreOwnEntries feeds old → AreOwnEntries feeds new
  own-same old new same own = subst (AreOwnEntries feeds) (sym same) own

  pub own-inserted : (eq : K → K → Bool) (old new : List (Entry K V)) (key : Hashed K) (value : V) → new ≡ insert_entry eq old key value → hash_of key ≡ own_hash feeds (key_of key)
      → AreOwnEntries feeds old → AreOwnEntries feeds new
  unfolding AreOwnEntries
  own-inserted eq old new key value put is own = subst (All is_own) (sym put) (insert_own eq old key value is own)

  pub own-inserted_all : (eq : K → K → Bool) (old new : List (Entry K V)) (items : List (K × V)) → new ≡ insert_all eq old (map (own_entry feeds) items) → AreOwnEntries feeds old → AreOwnEntries feeds new
  unfolding AreOwnEntries
  own-inserted_all eq old new items put own = rw put (insert_entries_own eq (map (own_entry feeds) items) old (All-map is_own (own_entry feeds) items (λ k d below. refl)) own)

  pub own-inserted_entries : (eq : K → K → Bool) (new items : List (Entry K V)) → new ≡ insert_all eq [] items → AreOwnEntries feeds items → AreOwnEntries feeds new
  unfolding AreOwnEntries
  own-inserted_entries eq new items put all = subst (All is_own) (sym put) (insert_entries_own eq items [] all (All-nil is_own))

  -- clones of keys under their own hashes, if equal keys have equal hashes
  pub own-clones : (key : K → K → Type 0) (value : V → V → Type 0) → ((x y : K) → key x y → feeds x ≡ feeds y) → (es fs : List (Entry K V)) → AllZip (IsEntryClone key value) es fs
      → AreOwnEntries feeds es → AreOwnEntries feeds fs
  unfolding AreOwnEntries
  own-clones key value alike es fs all own = λ k d below.
      let inside : k < length es = omega (arith, below, length_all_zip (IsEntryClone key value) es fs all) in
      let is = AllZip-get_or (IsEntryClone key value) es fs k d d all inside in
      let x = entry_key (get_or es k d) in
      is.0 ∙ own k d inside ∙ (λ i. own_hash (λ _. alike x (entry_key (get_or fs k d)) is.1 i) x)

  -- a write of a value leaves hashes and keys
  pub own-set_value_at : (es : List (Entry K V)) (i : ℕ) (w : V) → AreOwnEntries feeds es → AreOwnEntries feeds (set_value_at es i w)
  unfolding AreOwnEntries
  own-set_value_at es i w own = λ k d below. simp set_value_at-key (own k d (omega (arith, below, length-set_value_at es i w)))

  pub own-removed : (old new : List (Entry K V)) (i : ℕ) → new ≡ remove old i → AreOwnEntries feeds old → AreOwnEntries feeds new
  unfolding AreOwnEntries
  own-removed old new i put own = rw put (All-append is_own (take i old) (drop (suc i) old) (All-take is_own i old own) (All-drop is_own (suc i) old own))

  pub own-retained : {F : Type 0} (g : Mut F (Bor K × (MutBor V × Unit {0})) (Bool × (MutBor V × Unit {0}))) (f : F) (old new : List (Entry K V)) → Retains (CalledAtEntry g) f old new → AreOwnEntries feeds old → AreOwnEntries feeds new
  unfolding AreOwnEntries
  own-retained g f old new kept own = all_retained g (λ k. hash_of k ≡ own_hash feeds (key_of k)) f old new kept own

  pub own-permuted : (old new : List (Entry K V)) → IsPermutation old new → AreOwnEntries feeds old → AreOwnEntries feeds new
  unfolding AreOwnEntries
  own-permuted old new moves own = All-permutation is_own old new moves own

  -- writes of any values
  pub own-with_values : (es ws : List (Entry K V)) → AreOwnEntries feeds es → AreOwnEntries feeds (with_values es ws)
  unfolding AreOwnEntries
  own-with_values es ws own = λ k d below.
      let inside : k < length es = omega (arith, below, length-with_values es ws) in
      simp (key-at es (with_values es ws) (hashed_keys-with_values es ws) k d d inside) (own k d inside)

-- facts of an empty map
pub ruleset emptied = (empty-found, own-empty)
