-- Writes of a value at a key, and through an entry.
use Rattle.starlark_hash.proofs.Common.{common_steps, ◌≡◌, ℕ, zero, suc, ◌<◌, Bool, true, List, [], ◌∷◌, length, Some, refl, sym, ap, ◌∙◌, arith, IsSome, slice_get, Result, Ok, Err, IsErr, IsOk, OnErr, OnOk, ◌≤◌, subst, option_map, IsEquivalence, false≢true}
use native.Mathlib.Bridge.{le_prop}
use Rattle.starlark_hash.specs.declared.hashed.Hashed.{Hashed}
use Rattle.starlark_hash.specs.declared.hash_value.StarlarkHashValue.{StarlarkHashValue}
use Rattle.starlark_hash.specs.Entries.{Entry, set_value_at, match_of, value_at, with_value, position_of, entry_value}
use Rattle.starlark_small.proofs.CallerLookup.{written_here, written_there, under, apart_other, found_is, is_some-value_at, position_of-found}
use Rattle.starlark_hash.specs.HashValue.{hashed, key_of, hash_of}
use Rattle.starlark_hash.specs.Insert.{insert_entry}
use Rattle.starlark_hash.specs.Lookup.{found, Writes, weight_of}
use Rattle.std.specs.declared.cmp.PartialEq as PartialEq
use Rattle.starlark_small.specs.MapEntry.{Occupied, Vacant, IsEntryOf, Puts, Refuses, entry_value_of, lacking_key, occupied_map, occupied_index, vacant_map, stored, written, with_entry_value, Enters}
use Rattle.starlark_small.specs.Insert.{IsInserted, IsRefused}
use Rattle.starlark_small.specs.declared.entry.Entry as E
use Rattle.starlark_small.specs.declared.entry.OccupiedEntry.{OccupiedEntry}
use Rattle.starlark_small.specs.declared.entry.VacantEntry.{VacantEntry}
use Rattle.starlark_small.specs.Map.{Map}
use Rattle.starlark_small.specs.Lookup.{total_of}
use Rattle.starlark_small.proofs.CallerOwn.{own-inserted}
use Rattle.starlark_small.proofs.CallerInsert.{inserts-put, part-at, writes-inserted}

module _ {K V : Type 0} (eq : K → K → Bool) (laws : IsEquivalence eq) (hash : StarlarkHashValue) (passes : K → Bool) (one : (x y : K) → passes x ≡ true → passes y ≡ eq x y) where
  -- a value is written at a key that is there
  pub writes-with_value : (old new : List (Entry K V)) (w : V) → IsSome (found passes hash old) → new ≡ with_value old (position_of hash passes old) w → Writes eq passes hash old new (Some w)
  unfolding found
  writes-with_value old new w there put = rw put (
    grind (arith, common_steps, written_here (under hash passes) old, is_some-value_at hash passes old, there),
    λ h other not. written_there (under h (eq other)) (under hash passes) (apart_other eq laws hash passes one (hashed h other) not) old (position_of hash passes old) w refl,
  )

-- what is put at an entry is in the map under its key
module _ {K V : Type 0} {g : PartialEq.Ghosts K} (eq : K → K → Bool) (m : Map K V) (key : Hashed K) where
  pub inserted-puts : (e : E.Entry K V g) → IsEntryOf eq m key e → (value : V) (new : Map K V) → Puts e value new → new.entries ≡ insert_entry eq m.entries key value
  unfolding Puts
  inserted-puts (Occupied o) is value new put = grind (arith, common_steps, put, is.0, is.1)
  inserted-puts (Vacant v) is value new put = grind (arith, common_steps, put.entries, is.0, position_of-found (eq (key_of key)) (hash_of key) m.entries is.1, is.2)

  pub entries-refused : (e : E.Entry K V g) → IsEntryOf eq m key e → (new : Map K V) → Refuses e new → new.entries ≡ m.entries
  unfolding Refuses
  entries-refused (Occupied o) is new refused = absurd refused.0
  entries-refused (Vacant v) is new refused = refused.1.entries ∙ ap (λ n. n.entries) is.0

  pub value-entry : (e : E.Entry K V g) → IsEntryOf eq m key e → entry_value_of e ≡ value_at m.entries (match_of eq m.entries key)
  value-entry (Occupied o) is = ap (λ n. option_map entry_value (slice_get n.entries (occupied_index o))) is.0 ∙ sym (ap (value_at m.entries) is.1)
  value-entry (Vacant v) is = sym (ap (value_at m.entries) (position_of-found (eq (key_of key)) (hash_of key) m.entries is.1))

module _ {K V : Type 0} where
  -- a value that is written twice, and one that is written and read
  set_twice : (es : List (Entry K V)) (i : ℕ) (u w : V) → set_value_at (set_value_at es i u) i w ≡ set_value_at es i w
  set_twice (e ∷ es) (suc i) u w = ap (λ l. e ∷ l) (set_twice es i u w)
  set_twice es i u w = refl

  value_set : (es : List (Entry K V)) (i : ℕ) (w : V) → i < length es → option_map entry_value (slice_get (set_value_at es i w) i) ≡ Some w
  value_set [] i w below = absurd (omega (arith, below))
  value_set (e ∷ es) zero w below = refl
  value_set (e ∷ es) (suc i) w below = value_set es i w (omega (arith, below))

module _ {K V : Type 0} {g : PartialEq.Ghosts K} where
  -- what is written, or inserted, is put
  pub puts-written : (o : OccupiedEntry K V g) (value : V) → Puts (Occupied o) value (written o value)
  unfolding Puts
  puts-written o value = refl

  -- an occupied entry that was written has that value
  pub occupied_written : (o : OccupiedEntry K V g) (value : V) (p : o.index < length (written o value).entries)
      → record { map = record o.map { now = written o value }; index = o.index; within = p } ≡ with_entry_value o value
  occupied_written o value p = ap (λ q. record (with_entry_value o value) { within = q }) (le_prop p (with_entry_value o value).within)

  pub puts-inserted : {A E : Type 0} (v : VacantEntry K V g) (r : Result A E) (value : V) (new : Map K V) → OnOk r (IsInserted (vacant_map v).now new (lacking_key v) value) → IsOk r → Puts (Vacant v) value new
  unfolding Puts
  puts-inserted v (Ok x) value new put ok = put
  puts-inserted v (Err e) value new put ok = absurd (false≢true ok)

  -- only what is vacant is refused
  pub refuses-vacant : {A E : Type 0} (v : VacantEntry K V g) (r : Result A E) (new : Map K V) → OnErr r (IsRefused (vacant_map v).now new) → IsErr r → Refuses (Vacant v) new
  unfolding Refuses
  refuses-vacant v (Ok x) new refused err = absurd (false≢true err)
  refuses-vacant v (Err e) new refused err = (tt, refused)

  pub refuses-occupied : (o : OccupiedEntry K V g) (e : E.Entry K V g) (new : Map K V) → Refuses (Occupied o) new → Refuses e new
  unfolding Refuses
  refuses-occupied o e new refused = absurd refused.0

  -- an entry that was written has that value, and what is put at it is put at the first one
  pub value-with_entry_value : (o : OccupiedEntry K V g) (u : V) → option_map entry_value (stored (with_entry_value o u)) ≡ Some u
  value-with_entry_value o u = value_set (occupied_map o).now.entries (occupied_index o) u o.within

  pub puts-with_entry_value : (o : OccupiedEntry K V g) (u value : V) (new : Map K V) → Puts (Occupied (with_entry_value o u)) value new → Puts (Occupied o) value new
  unfolding Puts
  puts-with_entry_value o u value new put =
      put ∙ ap (λ es. record (occupied_map o).now { entries = es }) (set_twice (occupied_map o).now.entries (occupied_index o) u value)

pub enters-entry : {K V : Type 0} {g : PartialEq.Ghosts K} (eq : K → K → Bool) → IsEquivalence eq → (key : Hashed K) (m : Map K V) (e : E.Entry K V g) → IsEntryOf eq m key e → Enters eq m key e
enters-entry eq laws key m e is =
    let there = value-entry eq m key e is in
    let put = inserted-puts eq m key e is in
    record {
      entry = is;
      value = found_is (eq (key_of key)) (hash_of key) m.entries (entry_value_of e) there;
      updates = λ value new puts. writes-inserted eq laws m.entries new.entries key value (put value new puts);
      inserts = λ value new puts. inserts-put eq m new key value (put value new puts);
      own = λ feeds under value new puts. own-inserted feeds eq m.entries new.entries key value (put value new puts) under;
      refused = entries-refused eq m key e is;
      part = λ measure. subst (λ o. weight_of measure o ≤ total_of measure m.entries) (sym there) (part-at measure m.entries (match_of eq m.entries key));
    }
