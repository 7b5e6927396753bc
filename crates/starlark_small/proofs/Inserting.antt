-- Insertions one after the other, and the room after them.
use Rattle.starlark_hash.proofs.Common.{common_steps, ◌≡◌, ℕ, ◌+◌, ◌<◌, ◌≤◌, Bool, List, [], ◌∷◌, ◌++◌, length, map, Option, Some, refl, sym, ap, ◌∙◌, subst, arith, ◌||◌, is_some, nat_lt, IsSome, nat_tests, Yields, option_map_or, length_push}
use Rattle.starlark_hash.specs.declared.hashed.Hashed.{Hashed}
use Rattle.starlark_hash.specs.Entries.{Entry, match_of, set_value_at}
use Rattle.starlark_hash.specs.Insert.{insert_entry}
use Rattle.starlark_hash.proofs.EntryLemmas.{length-set_value_at}
use Rattle.starlark_small.specs.Collect.{insert_all}
use Rattle.starlark_small.specs.Memory.{StaysOrGrows, stepped_capacity}
use Rattle.starlark_small.specs.Index.{unindexed}
use Rattle.starlark_small.specs.Insert.{LeavesMemory}
use Rattle.starlark_small.specs.Map.{Map, KeepsRoom}
use Rattle.starlark_small.proofs.Growing.{stepped_none, stepped_inserted, stepped_refused}

-- one more item came
pub yields_more : {S A : Type 0} (steps : S → Option A → S → Type 0) (s t u : S) (xs : List A) (x : A) → Yields steps s xs t → steps t (Some x) u → Yields steps s (xs ++ x ∷ []) u
yields_more steps s t u [] x gave step = (u, subst (λ r. steps r (Some x) u) (sym gave) step, refl)
yields_more steps s t u (y ∷ ys) x (j, first, rest) step = (j, first, yields_more steps j t u ys x rest step)

module _ {K V : Type 0} (eq : K → K → Bool) where
  -- one more entry was inserted
  insert_all-push : {A : Type 0} (item : A → Entry K V) (es : List (Entry K V)) (xs : List A) (x : A)
      → insert_all eq es (map item (xs ++ x ∷ [])) ≡ insert_entry eq (insert_all eq es (map item xs)) (item x).0 (item x).1
  insert_all-push item es [] x = refl
  insert_all-push item es (y ∷ ys) x = insert_all-push item (insert_entry eq es (item y).0 (item y).1) ys x

  -- no entry is lost, and at most one is added
  length_or : (es : List (Entry K V)) (key : Hashed K) (value : V) (o : Option ℕ) (new : List (Entry K V)) → new ≡ option_map_or (λ i. set_value_at es i value) o (es ++ (key, value) ∷ [])
      → (length es ≤ length new) × (length new ≤ length es + 1)
  length_or es key value o new is = (grind (arith, common_steps, length-set_value_at es), grind (arith, common_steps, length-set_value_at es))

  pub length_insert_le : (es : List (Entry K V)) (key : Hashed K) (value : V) → length (insert_entry eq es key value) ≤ length es + 1
  length_insert_le es key value = (length_or es key value (match_of eq es key) (insert_entry eq es key value) refl).1

-- a list without an index is too short to need one
pub long_is_indexed : {A : Type 0} (index : Option A) (had : Bool) (len : ℕ) → is_some index ≡ had → (unindexed < len → IsSome index) → had ≡ (had || nat_lt unindexed len)
long_is_indexed index had len same long = grind (arith, nat_tests, long)

-- a map after the insertion of these items, of a bounded number in all
pub record IsFilled {K V A : Type 0} (eq : K → K → Bool) (item : A → Entry K V) (all : ℕ) (first : Map K V) (seen : List A) (now : Map K V) : Type 0 where
  pub entries : now.entries ≡ insert_all eq first.entries (map item seen)
  pub room : KeepsRoom first now
  pub added : length now.entries ≤ length first.entries + length seen
  pub longer : length first.entries ≤ length now.entries
  pub capacity : now.capacity ≡ stepped_capacity first now
  pub indexed : now.indexed ≡ (first.indexed || nat_lt unindexed (length now.entries))
  pub spare : all ≤ first.room → (now.capacity ≡ first.capacity) × (now.indexed ≡ first.indexed)

-- a map after the insertion of these items and the refusal of one more
pub record IsStopped {K V A : Type 0} (eq : K → K → Bool) (item : A → Entry K V) (all : ℕ) (first : Map K V) (seen : List A) (now : Map K V) : Type 0 where
  pub entries : now.entries ≡ insert_all eq first.entries (map item seen)
  pub room : KeepsRoom first now
  pub left : first.room ≤ now.room + all
  pub full : length first.entries + first.room ≤ length now.entries
  pub lacked : all ≤ first.room → ⊥
  pub capacity : StaysOrGrows 1 (record now { capacity = stepped_capacity first now }) now
  pub indexed : now.indexed ≡ (first.indexed || nat_lt unindexed (length now.entries))
  pub spare : all ≤ first.room → (now.capacity ≡ first.capacity) × (now.indexed ≡ first.indexed)

pub filled_none : {K V A : Type 0} {eq : K → K → Bool} {item : A → Entry K V} {all : ℕ} (first : Map K V) → first.indexed ≡ (first.indexed || nat_lt unindexed (length first.entries)) → IsFilled eq item all first [] first
filled_none first had = record { entries = refl; room = omega arith; added = omega arith; longer = omega arith; capacity = stepped_none first; indexed = had; spare = λ _. (refl, refl) }

-- a further item is tried
module _ {K V A : Type 0} {eq : K → K → Bool} {item : A → Entry K V} {all : ℕ} {first : Map K V} {seen : List A} {mid : Map K V} (last : Map K V) (held : IsFilled eq item all first seen mid)
    {left after : ℕ} (counted : length seen + left ≤ all) (fewer : after < left) (x : A) (leaves : LeavesMemory eq mid last (item x).0) where
  -- it was inserted
  pub filled_more : last.entries ≡ insert_entry eq mid.entries (item x).0 (item x).1 → IsFilled eq item all first (seen ++ x ∷ []) last
  filled_more put =
      let sizes = length_or eq mid.entries (item x).0 (item x).1 (match_of eq mid.entries (item x).0) last.entries put in
      let entries = put ∙ ap (λ l. insert_entry eq l (item x).0 (item x).1) held.entries ∙ sym (insert_all-push eq item first.entries seen x) in
      let capacity = stepped_inserted first mid last held.longer held.capacity eq (item x).0 (item x).1 (match_of eq mid.entries (item x).0) refl put leaves in
      grind (arith, nat_tests, entries, capacity, sizes, length_push seen x, held.room, leaves.room, held.added, held.longer, held.indexed, leaves.indexed, held.spare, leaves.spare)

  -- it was refused: the room is used up, so there was no room for all
  pub filled_still : last.entries ≡ mid.entries → mid.room ≡ 0 → IsStopped eq item all first seen last
  filled_still same full =
      let as_long : length last.entries ≡ length mid.entries = ap length same in
      let entries = same ∙ held.entries in
      let capacity = stepped_refused first mid last held.longer held.capacity same leaves.capacity in
      grind (arith, nat_tests, entries, capacity, as_long, full, counted, held.room, leaves.room, held.added, held.indexed, leaves.indexed, held.spare, leaves.spare)
