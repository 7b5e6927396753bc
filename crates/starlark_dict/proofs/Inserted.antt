-- What an insertion into the small map inside is to the pairs.
use Rattle.starlark_hash.proofs.Common.{◌≡◌, ◌+◌, ◌<◌, ◌≤◌, ◌∙◌, ℕ, zero, Bool, HashWrites, Err, IfOk, IsEquivalence, IsOk, IsTrue, List, Ok, OnErr, OnOk, Option, Result, Some, ap, arith, if◌then◌else◌, is_some, length, map, refl, sym, [], ◌∷◌, suc, remove, inr}
use Rattle.std.specs.Map.{lookup}
use Rattle.starlark_hash.specs.declared.hashed.Hashed.{Hashed}
use Rattle.starlark_hash.specs.Entries.{Entry, pair_of}
use Rattle.starlark_hash.specs.Hasher.{own_hash}
use Rattle.starlark_hash.specs.Insert as list
use Rattle.starlark_hash.specs.Lookup.{found}
use Rattle.starlark_small.specs.Insert as small
use Rattle.starlark_small.specs.Lookup.{AreOwnEntries}
use Rattle.starlark_small.specs.Map as small_map
use Rattle.starlark_small.specs.Memory.{Reserves}
use Rattle.starlark_small.specs.Map.{Map, own_hashed}
use Rattle.starlark_dict.specs.Dict.{IsUnchanged, KeepsMemory, KeepsRoom, LeavesMemory, StaysOrGrows, Updates, dict_of, insert_entry}
use Rattle.starlark_dict.proofs.Changes.{length-insert_entry, updated-inserted}
use Rattle.starlark_dict.proofs.OwnPairs.{found-own, length-pairs, pairs-inserted, same_hash}

module _ {K V : Type 0} (eq : K → K → Bool) (feeds : K → HashWrites) (alike : (x y : K) → IsTrue (eq x y) → feeds x ≡ feeds y) (key : K) where
  -- the value that was there
  pub old-value : (old : Map K V) → AreOwnEntries feeds old.entries → found (eq key) (own_hash feeds key) old.entries ≡ lookup (eq key) (map pair_of old.entries)
  old-value old own = found-own feeds (eq key) (own_hash feeds key) (same_hash eq feeds alike key) old.entries own

  module _ (value : V) (laws : IsEquivalence eq) (old new : Map K V) (own : AreOwnEntries feeds old.entries) where
    -- the pairs, and what look-ups find
    pub done : new.entries ≡ list.insert_entry eq old.entries (own_hashed feeds key) value
        → (map pair_of new.entries ≡ insert_entry eq (map pair_of old.entries) key value) × Updates eq (dict_of old) (dict_of new) key (Some value)
    done put =
        let pairs = ap (map pair_of) put ∙ pairs-inserted eq feeds alike key value old.entries own in
        (pairs, updated-inserted eq key value laws (map pair_of old.entries) (map pair_of new.entries) pairs)

    -- their number
    pub count-inserted : {E : Type 0} (r : Result (Option V) E) → IfOk r (λ was. was ≡ found (eq key) (own_hash feeds key) old.entries) → OnOk r (small.Inserts eq old new (own_hashed feeds key) value)
        → IfOk r (λ was. length (map pair_of new.entries) ≡ length (map pair_of old.entries) + (if is_some was then 0 else 1))
    count-inserted (Ok was) is put = ap length (done put.entries).0 ∙ length-insert_entry eq key value (map pair_of old.entries) ∙ ap (λ o. length (map pair_of old.entries) + (if is_some o then 0 else 1)) (sym (is ∙ old-value old own))
    count-inserted (Err e) is put = tt

module _ {K V : Type 0} where
  -- with room to spare nothing is refused
  pub full-room : {A E : Type 0} (eq : K → K → Bool) (feeds : K → HashWrites) (old new : Map K V) (key : K) (r : Result A E) → OnErr r (small.IsRefusedInsertion eq old new (own_hashed feeds key)) → 0 < old.room → IsOk r
  full-room eq feeds old new key (Ok x) refused spare = refl
  full-room eq feeds old new key (Err e) refused spare = absurd (omega (arith, spare, refused.full))

  pub stays : (old new : Map K V) → new.entries ≡ old.entries → map pair_of new.entries ≡ map pair_of old.entries
  stays old new same = ap (map pair_of) same

  pub room-kept : (old new : Map K V) → small_map.KeepsRoom old new → KeepsRoom (dict_of old) (dict_of new)
  room-kept old new kept = omega (arith, kept, length-pairs old.entries, length-pairs new.entries)

  -- the memory
  pub leaves-memory : (eq : K → K → Bool) (old new : Map K V) (key : Hashed K) → small.LeavesMemory eq old new key → LeavesMemory (dict_of old) (dict_of new)
  leaves-memory eq old new key left = record {
    spare = λ some. let k = left.spare some in λ i. record { capacity = k.0 i; indexed = k.1 i };
    capacity = rw (length-pairs old.entries) left.capacity;
    indexed = rw (length-pairs new.entries) left.indexed;
  }

  -- capacity and index stay, and no room is lost
  pub memory-kept : (old new : Map K V) → small_map.KeepsMemory old new → KeepsMemory (dict_of old) (dict_of new)
  memory-kept old new kept = (room-kept old new kept.0, λ i. record { capacity = kept.1 i; indexed = kept.2 i })

  -- room for so many, made or refused
  pub reserved : {A E : Type 0} (n : ℕ) (old new : Map K V) (r : Result A E) → Reserves n old new r
      → IsUnchanged (dict_of old) (dict_of new) × OnOk r (n ≤ new.room) × OnErr r (old.room < n) × KeepsRoom (dict_of old) (dict_of new) × StaysOrGrows n (dict_of old) (dict_of new)
  reserved n old new (Ok x) made = (ap (map pair_of) made.reserved.entries, made.reserved.enough, tt, room-kept old new made.reserved.room, rw (length-pairs old.entries) (inr made.reserved.capacity))
  reserved n old new (Err e) made = (ap (map pair_of) made.refused.entries, tt, made.lacking, room-kept old new made.refused.room, rw (length-pairs old.entries) made.refused.capacity)

module _ {K V : Type 0} where
  -- the pairs without the one at an index
  pub pairs-without : (es : List (Entry K V)) (i : ℕ) → map pair_of (remove es i) ≡ remove (map pair_of es) i
  pairs-without [] zero = refl
  pairs-without [] (suc i) = refl
  pairs-without (e ∷ es) zero = refl
  pairs-without (e ∷ es) (suc i) = ap (λ l. pair_of e ∷ l) (pairs-without es i)
