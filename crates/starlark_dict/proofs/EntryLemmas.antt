-- What an entry of a dictionary shows, and what a write through it leaves.
use Rattle.starlark_hash.proofs.Common.{◌≡◌, ℕ, zero, suc, ◌<◌, Bool, Err, IsEquivalence, IsErr, IsOk, List, None, Ok, OnErr, OnOk, Result, Some, [], ◌∷◌, ◌++◌, ◌∙◌, ap, arith, cond, false≢true, is_some, inl, inr, keys_of, length, map, option_map, position, refl, same_Some, slice_get, subst, sym}
use native.Mathlib.Bridge.{le_prop}
use Rattle.std.specs.List.{IsDistinct}
use Rattle.std.specs.declared.cmp.PartialEq as PartialEq
use Rattle.std.specs.declared.hash.Hash as Hash
use Rattle.std.proofs.lemmas.Map.{none_passes_from_lookup}
use Rattle.std_collections.specs.Layout.Columns.{set_value_at}
use Rattle.std_collections.specs.Layout.HashMap.{hash_map}
use Rattle.std_collections.proofs.Entries.{keys_set_value_at, length-set_value_at}
use Rattle.std_collections.proofs.HashLookup.{IsAbsent, IsFirst, IsFirst-or_none, distinct_push, get_value, get_value_set, lookup-IsFirst, set_value_at_push, set_value_at_twice, slice_get_push}
use Rattle.starlark_hash.specs.Entries.{Entry, pair_of, set_value_at as set_entry, value_at}
use Rattle.starlark_hash.proofs.PositionLemmas.{position-cons}
use Rattle.starlark_small.specs.Map.{Map}
use Rattle.starlark_dict.specs.Dict.{Dict, IsUnique, KeepsRoom, dict_len, dict_of, get, insert_entry, memory, room}
use Rattle.starlark_dict.specs.Entry.{Enters, IsAppended, IsEntryOf, IsRefused, Occupied, Puts, Refuses, Vacant, entry_value_of, lacking_key, occupied_dict, occupied_index, stored, vacant_dict, with_entry_value, with_value_at, written}
use Rattle.starlark_dict.specs.declared.dict.entry.Entry as E
use Rattle.starlark_dict.specs.declared.dict.entry.OccupiedEntry.{OccupiedEntry}
use Rattle.starlark_dict.specs.declared.dict.entry.VacantEntry.{VacantEntry}
use Rattle.starlark_dict.proofs.Changes.{insert_entry-absent, insert_entry-first, length-insert_entry, updated-inserted}
use Rattle.starlark_dict.proofs.Rebuilt.{absent}

module _ {K V : Type 0} where
  pairs-set : (es : List (Entry K V)) (i : ℕ) (w : V) → map pair_of (set_entry es i w) ≡ set_value_at (map pair_of es) i w
  pairs-set [] i w = refl
  pairs-set (e ∷ es) zero w = refl
  pairs-set (e ∷ es) (suc i) w = ap (λ l. pair_of e ∷ l) (pairs-set es i w)

  -- a value of the small map inside that is written is that of its pair
  pub dict-written : (m : Map K V) (i : ℕ) (w : V) → dict_of (record m { entries = set_entry m.entries i w }) ≡ with_value_at (dict_of m) i w
  dict-written m i w = ap (λ es. hash_map es (record { capacity = m.capacity; indexed = m.indexed }) m.room) (pairs-set m.entries i w)

  pub value-pair : (es : List (Entry K V)) (i : ℕ) → option_map (λ p. p.1) (slice_get (map pair_of es) i) ≡ value_at es (Some i)
  value-pair [] i = refl
  value-pair (e ∷ es) zero = refl
  value-pair (e ∷ es) (suc i) = value-pair es i

  -- the last value, written and read
  module _ (old new : Dict K V) (key : K) (value : V) (i : ℕ) (end : i ≡ dict_len old) (put : IsAppended old new key value) where
    pub written-appended : (w : V) → IsAppended old (with_value_at new i w) key w
    written-appended w = record {
      entries = (λ j. set_value_at (put.entries j) (end j) w) ∙ set_value_at_push old.entries key value w;
      spare = put.spare;
      room = omega (arith, put.room, length-set_value_at new.entries i w);
      capacity = put.capacity;
      indexed = put.indexed;
    }

    pub value-appended : (v : V) → option_map (λ p. p.1) (slice_get new.entries i) ≡ Some v → v ≡ value
    value-appended v at = same_Some _ _ (sym at ∙ (λ j. option_map (λ (p : K × V). p.1) (slice_get (put.entries j) (end j))) ∙ ap (option_map (λ (p : K × V). p.1)) (slice_get_push old.entries (key, value)))

  position-first : (test : K → Bool) (es : List (K × V)) (i : ℕ) → IsFirst test es i → position test (keys_of es) ≡ Some i
  position-first test [] i h = absurd h
  position-first test (e ∷ es) zero h = position-cons test e.0 (keys_of es) ∙ ap (λ b. cond b (Some 0) (option_map suc (position test (keys_of es)))) h
  position-first test (e ∷ es) (suc i) h = position-cons test e.0 (keys_of es) ∙ (λ j. cond (h.0 j) (Some 0) (option_map suc (position-first test es i h.1 j)))

  position-absent : (test : K → Bool) (es : List (K × V)) → IsAbsent test es → position test (keys_of es) ≡ None
  position-absent test [] h = refl
  position-absent test (e ∷ es) h = position-cons test e.0 (keys_of es) ∙ (λ j. cond (h.0 j) (Some 0) (option_map suc (position-absent test es h.1 j)))

  first-position : (test : K → Bool) (es : List (K × V)) (i : ℕ) → position test (keys_of es) ≡ Some i → IsFirst test es i
  first-position test es i at = elim (IsFirst-or_none test es) [
    | inl a ↦ absurd (false≢true (ap is_some (sym (position-absent test es a) ∙ at)))
    | inr f ↦ subst (IsFirst test es) (same_Some _ _ (sym (position-first test es f.0 f.1) ∙ at)) f.1
  ]

  unique-inserted : (eq : K → K → Bool) → IsEquivalence eq → (es : List (K × V)) (k : K) (v : V) → IsDistinct eq (keys_of es) → IsDistinct eq (keys_of (insert_entry eq es k v))
  unique-inserted eq laws es k v unique = elim (IsFirst-or_none (eq k) es) [
    | inl a ↦ subst (λ l. IsDistinct eq (keys_of l)) (sym (insert_entry-absent eq k v es a)) (distinct_push eq laws es (k, v) unique a)
    | inr f ↦ subst (IsDistinct eq) (sym (ap keys_of (insert_entry-first eq k v es f.0 f.1) ∙ keys_set_value_at es f.0 v)) unique
  ]

module _ {K V : Type 0} {g : PartialEq.Ghosts K} {h : Hash.Ghosts K} where
  -- what is written, or appended, is put
  pub puts-written : (o : OccupiedEntry K V g h) (value : V) → Puts (Occupied o) value (written o value)
  unfolding Puts
  puts-written o value = refl

  -- an occupied entry that was written has that value
  pub occupied_written : (o : OccupiedEntry K V g h) (value : V) (p : o.index < length (written o value).entries)
      → record { dict = record o.dict { now = written o value }; index = o.index; within = p } ≡ with_entry_value o value
  occupied_written o value p = ap (λ q. record (with_entry_value o value) { within = q }) (le_prop p (with_entry_value o value).within)

  pub puts-appended : {A E : Type 0} (v : VacantEntry K V g h) (r : Result A E) (value : V) (new : Dict K V) → OnOk r (IsAppended (vacant_dict v).now new (lacking_key v) value) → IsOk r → Puts (Vacant v) value new
  unfolding Puts
  puts-appended v (Ok x) value new put ok = put
  puts-appended v (Err e) value new put ok = absurd (false≢true ok)

  -- only what is vacant is refused
  pub refuses-vacant : {A E : Type 0} (v : VacantEntry K V g h) (r : Result A E) (new : Dict K V) → OnErr r (IsRefused (vacant_dict v).now new) → IsErr r → Refuses (Vacant v) new
  unfolding Refuses
  refuses-vacant v (Ok x) new refused err = absurd (false≢true err)
  refuses-vacant v (Err e) new refused err = (tt, refused)

  pub refuses-occupied : (o : OccupiedEntry K V g h) (e : E.Entry K V g h) (new : Dict K V) → Refuses (Occupied o) new → Refuses e new
  unfolding Refuses
  refuses-occupied o e new refused = absurd refused.0

  -- an entry that was written has that value, and what is put under it is put under the first
  pub value-with_entry_value : (o : OccupiedEntry K V g h) (u : V) → option_map (λ p. p.1) (stored (with_entry_value o u)) ≡ Some u
  value-with_entry_value o u = sym (get_value (written o u).entries (occupied_index o)) ∙ get_value_set (occupied_dict o).now.entries (occupied_index o) u o.within

  pub puts-with_entry_value : (o : OccupiedEntry K V g h) (u value : V) (new : Dict K V) → Puts (Occupied (with_entry_value o u)) value new → Puts (Occupied o) value new
  unfolding Puts
  puts-with_entry_value o u value new put =
      put ∙ ap (λ es. hash_map es (memory (occupied_dict o).now) (room (occupied_dict o).now)) (set_value_at_twice (occupied_dict o).now.entries (occupied_index o) u value)

  -- what is put under an entry is inserted at its key
  module _ (eq : K → K → Bool) (laws : IsEquivalence eq) (d : Dict K V) (unique : IsUnique eq d) (key : K) where
    inserted-puts : (e : E.Entry K V g h) → IsEntryOf eq d key e → (value : V) (new : Dict K V) → Puts e value new → new.entries ≡ insert_entry eq d.entries key value
    unfolding Puts
    inserted-puts (Occupied o) is value new put =
        ap (λ n. n.entries) put ∙ ap (λ n. set_value_at n.entries (occupied_index o) value) is.0 ∙ sym (insert_entry-first eq key value d.entries (occupied_index o) (first-position (eq key) d.entries (occupied_index o) is.1))
    inserted-puts (Vacant v) is value new put =
        put.entries ∙ (λ i. (is.0 i).entries ++ (is.2 i, value) ∷ []) ∙ sym (insert_entry-absent eq key value d.entries (absent eq key value d.entries (none_passes_from_lookup (eq key) d.entries is.1)))

    room-put : (e : E.Entry K V g h) → IsEntryOf eq d key e → (value : V) (new : Dict K V) → Puts e value new → KeepsRoom d new
    unfolding Puts
    room-put (Occupied o) is value new put = subst (λ m. KeepsRoom m new) is.0 (omega (arith, ap dict_len put, ap room put, length-set_value_at (occupied_dict o).now.entries (occupied_index o) value))
    room-put (Vacant v) is value new put = subst (λ m. KeepsRoom m new) is.0 put.room

    entries-refused : (e : E.Entry K V g h) → IsEntryOf eq d key e → (new : Dict K V) → Refuses e new → new.entries ≡ d.entries
    unfolding Refuses
    entries-refused (Occupied o) is new refused = absurd refused.0
    entries-refused (Vacant v) is new refused = refused.1.entries ∙ ap (λ n. n.entries) is.0

    value-entry : (e : E.Entry K V g h) → IsEntryOf eq d key e → entry_value_of e ≡ get eq d key
    value-entry (Occupied o) is =
        ap (λ n. option_map (λ (p : K × V). p.1) (slice_get n.entries (occupied_index o))) is.0 ∙ sym (get_value d.entries (occupied_index o)) ∙ sym (lookup-IsFirst (eq key) d.entries (occupied_index o) (first-position (eq key) d.entries (occupied_index o) is.1))
    value-entry (Vacant v) is = sym is.1

    pub enters-entry : (e : E.Entry K V g h) → IsEntryOf eq d key e → Enters eq d key e
    enters-entry e is =
        let put = inserted-puts e is in
        record {
          entry = is;
          value = value-entry e is;
          updates = λ value new puts. updated-inserted eq key value laws d.entries new.entries (put value new puts);
          entries = put;
          len = λ value new puts. ap length (put value new puts) ∙ length-insert_entry eq key value d.entries;
          room = room-put e is;
          unique = λ value new puts. subst (λ l. IsDistinct eq (keys_of l)) (sym (put value new puts)) (unique-inserted eq laws d.entries key value unique);
          refused = entries-refused e is;
        }
