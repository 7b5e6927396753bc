-- Insertions: what look-ups find afterwards, the keys in order, the length and the sum of the values.
use Rattle.starlark_hash.specs.Hasher.{own_hash}
use Rattle.starlark_hash.proofs.Common.{HashWrites, common_steps, ◌≡◌, ◌+◌, Bool, List, [], ◌∷◌, ◌++◌, length, map, Some, None, is_some, refl, arith, ℕ, zero, suc, ◌<◌, ◌≤◌, Option, slice_get, if◌then◌else◌, option_map, IsEquivalence, map-append}
use Rattle.starlark_hash.specs.declared.hashed.Hashed.{Hashed}
use Rattle.starlark_hash.specs.HashValue.{hashed, key_of, hash_of}
use Rattle.starlark_hash.specs.Entries.{Entry, set_value_at, match_of, value_at, entry_value}
use Rattle.starlark_hash.specs.Insert.{insert_entry}
use Rattle.starlark_hash.proofs.EntryLemmas.{length-set_value_at}
use Rattle.starlark_small.proofs.CallerLookup.{alike, written_here, inserted_there, pushed_here, under, apart_other, same_key, keys-set_value_at, is_some-found, position_of-found}
use Rattle.starlark_hash.specs.Lookup.{found, Writes, weight_of}
use Rattle.starlark_small.specs.Lookup.{AreOwn, keys, total_of}
use Rattle.starlark_small.specs.Map.{Map}
use Rattle.std.proofs.lemmas.List.Sums.{sum_by-cons, sum_by_push}
use Rattle.starlark_hash.proofs.PositionLemmas.{position-within}
use Rattle.starlark_small.specs.Insert.{Inserts}
use Rattle.starlark_small.proofs.CallerOwn.{own-inserted}

module _ {K V : Type 0} (eq : K → K → Bool) (laws : IsEquivalence eq) where
  -- after an insertion the key is found with the inserted value, and every other key as before
  pub writes-inserted : (old new : List (Entry K V)) (key : Hashed K) (value : V) → new ≡ insert_entry eq old key value → Writes eq (eq (key_of key)) (hash_of key) old new (Some value)
  unfolding found
  writes-inserted old new key value put = rw put (
    grind (arith, common_steps, same_key eq laws key, pushed_here (alike eq key) old (key, value), written_here (alike eq key) old),
    λ h other not.
        let apart = apart_other eq laws (hash_of key) (eq (key_of key)) (laws.congr (key_of key)) (hashed h other) not in
        inserted_there (under h (eq other)) (alike eq key) apart old (match_of eq old key) (key, value) refl (apart key (same_key eq laws key)),
  )

-- the length after an insertion
pub length-put : {K V : Type 0} (eq : K → K → Bool) (old new : List (Entry K V)) (key : Hashed K) (value : V) → new ≡ insert_entry eq old key value
    → length new ≡ length old + (if is_some (found (eq (key_of key)) (hash_of key) old) then 0 else 1)
length-put eq old new key value put = rw put (grind (arith, common_steps, length-set_value_at old, is_some-found (eq (key_of key)) (hash_of key) old))

-- an insertion of a new key, and the keys in order after any insertion
module _ {K V : Type 0} (eq : K → K → Bool) (old new : Map K V) (key : Hashed K) (value : V) (put : new.entries ≡ insert_entry eq old.entries key value) where
  pub entries-pushed : found (eq (key_of key)) (hash_of key) old.entries ≡ None → new.entries ≡ old.entries ++ (key, value) ∷ []
  entries-pushed lacking = grind (arith, common_steps, put, is_some-found (eq (key_of key)) (hash_of key) old.entries)

  pub keys-put : keys new ≡ (if is_some (found (eq (key_of key)) (hash_of key) old.entries) then keys old else keys old ++ key_of key ∷ [])
  keys-put = rw put (grind (arith, common_steps, keys-set_value_at old.entries, is_some-found (eq (key_of key)) (hash_of key) old.entries))

module _ {K V : Type 0} (measure : V → ℕ) where
  total-set : (es : List (Entry K V)) (i : ℕ) (value : V) → i < length es → total_of measure (set_value_at es i value) + weight_of measure (option_map entry_value (slice_get es i)) ≡ total_of measure es + measure value
  total-set [] i value below = absurd (omega (arith, below))
  total-set (e ∷ es) zero value below = omega (arith, sum_by-cons measure)
  total-set (e ∷ es) (suc i) value below = omega (arith, sum_by-cons measure, total-set es i value (omega (arith, below)))

  -- the measure of the value at an index is at most the sum of all
  pub part-at : (es : List (Entry K V)) (index : Option ℕ) → weight_of measure (value_at es index) ≤ total_of measure es
  part-at es None = omega arith
  part-at [] (Some i) = omega arith
  part-at (e ∷ es) (Some zero) = omega (arith, sum_by-cons measure)
  part-at (e ∷ es) (Some (suc i)) = omega (arith, sum_by-cons measure, part-at es (Some i))

  -- the sum of the values after an insertion
  pub total-inserted : (eq : K → K → Bool) (old new : List (Entry K V)) (key : Hashed K) (value : V) → new ≡ insert_entry eq old key value
      → total_of measure new + weight_of measure (value_at old (match_of eq old key)) ≡ total_of measure old + measure value
  total-inserted eq old new key value put = grind (arith, common_steps, put, map-append entry_value old ((key, value) ∷ []), sum_by_push measure (map entry_value old) value, total-set old, position-within (λ e. alike eq key e.0) old)

  pub total-put : (eq : K → K → Bool) (old new : List (Entry K V)) (key : Hashed K) (value : V) → new ≡ insert_entry eq old key value
      → total_of measure new + weight_of measure (found (eq (key_of key)) (hash_of key) old) ≡ total_of measure old + measure value
  unfolding found
  total-put eq old new key value put = total-inserted eq old new key value put

-- an insertion of a key that is lacking appends it
pub insert_entry-lacking : {K V : Type 0} (eq : K → K → Bool) (key : Hashed K) (value : V) (es new : List (Entry K V)) → found (eq (key_of key)) (hash_of key) es ≡ None → new ≡ es ++ (key, value) ∷ []
    → new ≡ insert_entry eq es key value
insert_entry-lacking eq key value es new lacking is = rw (position_of-found (eq (key_of key)) (hash_of key) es lacking) is

-- the list after an insertion
pub inserts-put : {K V : Type 0} (eq : K → K → Bool) (old new : Map K V) (key : Hashed K) (value : V) → new.entries ≡ insert_entry eq old.entries key value → Inserts eq old new key value
inserts-put eq old new key value put = record {
  entries = put;
  keys = keys-put eq old new key value put;
  count = length-put eq old.entries new.entries key value put;
  pushed = entries-pushed eq old new key value put;
  total = λ measure. total-put measure eq old.entries new.entries key value put;
}

-- the clauses of an insertion that was done, by the list that it leaves
pub record IsDone {K V : Type 0} (eq : K → K → Bool) (old new : Map K V) (key : Hashed K) (value : V) : Type 0 where
  pub updates : Writes eq (eq (key_of key)) (hash_of key) old.entries new.entries (Some value)
  pub inserts : Inserts eq old new key value
  pub own : (feeds : K → HashWrites) → hash_of key ≡ own_hash feeds (key_of key) → AreOwn feeds old → AreOwn feeds new

module _ {K V : Type 0} (eq : K → K → Bool) (laws : IsEquivalence eq) (old new : Map K V) (key : Hashed K) (value : V) where
  pub is-done : new.entries ≡ insert_entry eq old.entries key value → IsDone eq old new key value
  is-done put = record {
    updates = writes-inserted eq laws old.entries new.entries key value put;
    inserts = inserts-put eq old new key value put;
    own = λ feeds. own-inserted feeds eq old.entries new.entries key value put;
  }

  -- the key was lacking
  pub is-appended : found (eq (key_of key)) (hash_of key) old.entries ≡ None → new.entries ≡ old.entries ++ (key, value) ∷ [] → IsDone eq old new key value
  is-appended lacking is = is-done (insert_entry-lacking eq key value old.entries new.entries lacking is)
