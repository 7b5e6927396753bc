-- Look-ups after the insertion of an iterator's items, and in a list of clones.
use Rattle.starlark_hash.proofs.Common.{◌||◌, nat_lt, common_steps, ◌≡◌, Bool, true, false, List, [], ◌∷◌, map, position, cond, Option, Some, None, is_some, Result, Ok, Err, OnOk, refl, sym, ap, ◌∙◌, subst, ℕ, get_or, length, IsSome, slice_get, arith, IfSome, IsEquivalence, HashWrites, Drains, AllZip, update_all, keys_of, map-id, is_some-update_all, slice_get-get_or, slice_get-map, option_map, ◌&&◌, ◌<◌, ◌≤◌, ◌++◌, option_map_or, AllZip-get_or, length_all_zip}
use Rattle.core.proofs.iter.runs.Lists.{at_some}
use Rattle.core.proofs.iter.runs.Made.{at-is, each, run, to_end}
use Rattle.std.proofs.lemmas.Map.Keys.{any_passes_from_place}
use Rattle.std.specs.Iterator.{Count}
use Rattle.std.specs.Iterator.Runs.{WholeRun, AllItems, AnyItem}
use Rattle.std.specs.Map.{update}
use Rattle.starlark_hash.specs.Hasher.{own_hash}
use Rattle.starlark_hash.specs.declared.hash_value.StarlarkHashValue.{StarlarkHashValue}
use Rattle.starlark_hash.specs.Clone.{IsEntryClone}
use Rattle.starlark_hash.specs.declared.hashed.Hashed.{Hashed}
use Rattle.starlark_hash.specs.Entries.{Entry, IsSingle, entry_hash, entry_key, is_under, match_of, position_of, set_value_at, stands_under}
use Rattle.starlark_hash.specs.Lookup.{found}
use Rattle.starlark_hash.specs.Insert.{insert_entry}
use Rattle.starlark_hash.proofs.PositionLemmas.{position-cons, position-map}
use Rattle.starlark_small.specs.Lookup.{get}
use Rattle.starlark_small.specs.Collect.{Collects, Extends, FindsLast, InsertsEach, KeepsOwn, insert_all, own_entry, HasItems, InsertsItems, IsExtended}
use Rattle.starlark_small.specs.Map.{Map, own_hashed}
use Rattle.starlark_small.specs.New.{IsEmptyFor}
use Rattle.starlark_small.specs.Index.{unindexed}
use Rattle.std.specs.Iterator.SizeHint.{IsWithinCount}
use Rattle.starlark_small.proofs.Growing.{stepped_from}
use Rattle.starlark_hash.proofs.EntryLemmas.{length-set_value_at}
use Rattle.starlark_small.proofs.ValuesWritten.{hashed_keys-set_value_at}
use Rattle.starlark_small.proofs.CallerOwn.{own-inserted_entries}
use Rattle.starlark_small.proofs.CallerLookup.{is_some-found, under}
use Rattle.starlark_small.proofs.CallerInsert.{writes-inserted}
use Rattle.std.proofs.lemmas.Map.Made.{IfSome-update_all}

-- the run of an iterator that gave these items and ended
pub run_of : {T A : Type 0} (steps : T → Option A → T → Type 0) (it : T) (xs : List A) (P : List A → Type 0) → Drains steps it xs → P xs → WholeRun steps it (λ p. P p.items)
run_of steps it xs P drained holds = (run steps it xs true (to_end steps it xs drained), refl, refl, holds)

module _ {K V : Type 0} (eq : K → K → Bool) (laws : IsEquivalence eq) (feeds : K → HashWrites) (alike : (x y : K) → eq x y ≡ true → feeds x ≡ feeds y) where
  -- a look-up of each key under its own hash
  abbrev look : List (Entry K V) → K → Option V
  look es key = found (eq key) (own_hash feeds key) es

  -- one more item
  looked_after : (es : List (Entry K V)) (p : K × V) (key : K) → look (insert_entry eq es (own_hashed feeds p.0) p.1) key ≡ update eq (look es) p.0 (Some p.1) key
  looked_after es p key =
      let wrote = writes-inserted eq laws es (insert_entry eq es (own_hashed feeds p.0) p.1) (own_hashed feeds p.0) p.1 refl in
      elim (eq p.0 key) as (λ b. eq p.0 key ≡ b → look (insert_entry eq es (own_hashed feeds p.0) p.1) key ≡ cond b (Some p.1) (look es key)) [
        | true ↦ λ same. (λ i. found (λ k. sym (laws.congr p.0 key k same) i) (own_hash (λ _. sym (alike p.0 key same) i) key) (insert_entry eq es (own_hashed feeds p.0) p.1)) ∙ wrote.0
        | false ↦ λ not. wrote.1 (own_hash feeds key) key not
      ] refl

  pub looked_all : (xs : List (K × V)) (es : List (Entry K V)) (key : K) → look (insert_all eq es (map (own_entry feeds) xs)) key ≡ update_all eq (look es) xs key
  looked_all [] es key = refl
  looked_all (x ∷ xs) es key =
      looked_all xs (insert_entry eq es (own_hashed feeds x.0) x.1) key ∙ (λ i. update_all eq (λ k. looked_after es x k i) xs key)

  module _ {T U : Type 0} (steps : T → Option (K × V) → T → Type 0) (becomes : U → T → Type 0) (iter : U) where
    -- after items were inserted in turn, each key has the last value that they have for it
    inserted_last : (it : T) → becomes iter it → (xs : List (K × V)) → Drains steps it xs → (old : List (Entry K V)) (new : Map K V) → new.entries ≡ insert_all eq old (map (own_entry feeds) xs) → FindsLast eq feeds steps becomes iter (look old) new
    inserted_last it made xs drained old new put =
        (it, made, run_of steps it xs (λ xs. (key : K) → look new.entries key ≡ update_all eq (look old) xs key) drained (λ key. ap (λ l. look l key) put ∙ looked_all xs old key))

    pub finds_extended : {E : Type 0} (r : Result (Unit {0}) E) (old new : Map K V) → Extends eq (own_entry feeds) steps becomes iter old.entries new.entries r
        → OnOk r (FindsLast eq feeds steps becomes iter (look old.entries) new)
    finds_extended (Ok a) old new went = inserted_last went.it went.made went.inserts.items went.inserts.ended old.entries new went.inserts.entries
    finds_extended (Err e) old new went = tt

    pub finds_collected : (remaining : T → Count) (m : Map K V) → Collects eq (own_entry feeds) steps becomes remaining iter m → FindsLast eq feeds steps becomes iter (λ _. None) m
    unfolding found
    finds_collected remaining m has = inserted_last has.it has.made has.items has.drained [] m has.entries

-- what is found stays, and no entry is lost, whatever is inserted
module _ {K V : Type 0} (eq : K → K → Bool) where
  longer-inserted : (es : List (Entry K V)) (key : Hashed K) (value : V) (o : Option ℕ) → length es ≤ length (option_map_or (λ i. set_value_at es i value) o (es ++ (key, value) ∷ []))
  longer-inserted es key value o = grind (arith, common_steps, length-set_value_at es)

  pub longer-inserted_all : (xs es : List (Entry K V)) → length es ≤ length (insert_all eq es xs)
  longer-inserted_all [] es = omega arith
  longer-inserted_all (x ∷ xs) es = omega (arith, longer-inserted es x.0 x.1 (match_of eq es x.0), longer-inserted_all xs (insert_entry eq es x.0 x.1))

  module _ (test : K → Bool) (hash : StarlarkHashValue) where
    some-before : (es fs : List (Entry K V)) → is_some (position_of hash test es) ≡ true → is_some (position_of hash test (es ++ fs)) ≡ true
    some-before [] fs is = cc
    some-before (e ∷ es) fs is = grind (arith, common_steps, position-cons (stands_under hash test) e es, position-cons (stands_under hash test) e (es ++ fs), some-before es fs)

    position_of-set : (es : List (Entry K V)) (i : ℕ) (value : V) → position_of hash test (set_value_at es i value) ≡ position_of hash test es
    position_of-set es i value =
        sym (position-map (λ (e : Entry K V). e.0) (under hash test) (set_value_at es i value))
        ∙ ap (position (under hash test)) (hashed_keys-set_value_at es i value)
        ∙ position-map (λ (e : Entry K V). e.0) (under hash test) es

    there-inserted : (es : List (Entry K V)) (key : Hashed K) (value : V) (o : Option ℕ) → is_some (found test hash es) ≡ true → is_some (found test hash (option_map_or (λ i. set_value_at es i value) o (es ++ (key, value) ∷ []))) ≡ true
    there-inserted es key value None is =
        sym (is_some-found test hash (es ++ (key, value) ∷ [])) ∙ some-before es ((key, value) ∷ []) (is_some-found test hash es ∙ is)
    there-inserted es key value (Some i) is =
        sym (is_some-found test hash (set_value_at es i value)) ∙ ap is_some (position_of-set es i value) ∙ is_some-found test hash es ∙ is

    pub there-inserted_all : (xs es : List (Entry K V)) → is_some (found test hash es) ≡ true → is_some (found test hash (insert_all eq es xs)) ≡ true
    there-inserted_all [] es is = is
    there-inserted_all (x ∷ xs) es is = there-inserted_all xs (insert_entry eq es x.0 x.1) (there-inserted es x.0 x.1 (match_of eq es x.0) is)

-- an empty map took in all of an iterator's items
pub collected : {K V A T U E fits : Type 0} {a : Unit {0}} (eq : K → K → Bool) (item : A → Entry K V) (steps : T → Option A → T → Type 0) (becomes : U → T → Type 0) (remaining : T → Count) (iter : U) (it : T) → becomes iter it
    → (first : ℕ) → IsWithinCount first (remaining it) → (old new : Map K V) → IsEmptyFor first old → InsertsItems eq item steps {E = E} it old.entries new.entries (Ok a) → IsExtended {E = E} fits old new (Ok a)
    → Collects eq item steps becomes remaining iter new
collected eq item steps becomes remaining iter it made first bounded old new empty put left = record {
  it = it;
  made = made;
  first = first;
  bounded = bounded;
  items = put.items;
  drained = put.ended;
  entries = put.entries ∙ ap (λ l. insert_all eq l (map item put.items)) empty.entries;
  room = omega (arith, left.room, empty.room, ap length empty.entries);
  capacity = left.capacity ∙ stepped_from old new first empty.entries empty.capacity;
  indexed = left.indexed ∙ ap (λ had. had || nat_lt unindexed (length new.entries)) empty.indexed;
}

module _ {K V T U : Type 0} (eq : K → K → Bool) (steps : T → Option (Entry K V) → T → Type 0) (becomes : U → T → Type 0) (iter : U) where
  -- the list is that of the items, inserted in their order
  pub each_collected : (remaining : T → Count) (m : Map K V) → Collects eq (λ item. item) steps becomes remaining iter m → InsertsEach eq steps becomes iter m
  each_collected remaining m has = (
    has.it,
    has.made,
    run_of steps has.it has.items (λ xs. m.entries ≡ insert_all eq [] xs) has.drained (has.entries ∙ ap (insert_all eq []) (map-id has.items)),
  )

  -- entries under own hashes stay so
  pub own_collected : (remaining : T → Count) (m : Map K V) → Collects eq (λ item. item) steps becomes remaining iter m → KeepsOwn steps becomes iter m
  own_collected remaining m has =
      let each = each_collected remaining m has in
      (each.0, each.1, (each.2.0, each.2.1, each.2.2, λ feeds. own-inserted_entries feeds eq m.entries each.2.0.items each.2.3))

module _ {K V : Type 0} (eq : K → K → Bool) (laws : IsEquivalence eq) (key : K → K → Type 0) (value : V → V → Type 0) (equal : (x y : K) → key x y → eq x y ≡ true) where
  -- a clone passes where its original does
  alike_clone : (q : K) (hash : StarlarkHashValue) (d e : Entry K V) → IsEntryClone key value d e → stands_under hash (eq q) e ≡ stands_under hash (eq q) d
  alike_clone q hash d e is = grind (arith, common_steps, is.0, laws.symm q, laws.congr (entry_key d) (entry_key e) q (equal (entry_key d) (entry_key e) is.1))

  position-clones : (q : K) (hash : StarlarkHashValue) (es fs : List (Entry K V)) → AllZip (IsEntryClone key value) es fs → position (stands_under hash (eq q)) fs ≡ position (stands_under hash (eq q)) es
  position-clones q hash [] [] all = refl
  position-clones q hash [] (f ∷ fs) all = absurd all
  position-clones q hash (e ∷ es) [] all = absurd all
  position-clones q hash (e ∷ es) (f ∷ fs) all = grind (arith, common_steps, position-cons, alike_clone q hash e f all.0, position-clones q hash es fs all.1)

  -- the clone of a list without equal entries has none
  pub IsSingle-clones : (es fs : List (Entry K V)) → AllZip (IsEntryClone key value) es fs → IsSingle eq es → IsSingle eq fs
  IsSingle-clones es fs all single i j d before below =
      let inside : j < length es = omega (arith, below, length_all_zip (IsEntryClone key value) es fs all) in
      let a = AllZip-get_or (IsEntryClone key value) es fs i d d all (omega arith) in
      let same : eq (entry_key (get_or fs i d)) (entry_key (get_or es j d)) ≡ eq (entry_key (get_or es i d)) (entry_key (get_or es j d)) = sym (laws.congr _ _ _ (equal _ _ a.1)) in
      alike_clone (entry_key (get_or fs i d)) (entry_hash (get_or fs i d)) (get_or es j d) (get_or fs j d) (AllZip-get_or (IsEntryClone key value) es fs j d d all inside)
      ∙ (λ k. is_under (a.0 k) (get_or es j d) && same k) ∙ single i j d before inside

  -- clones are found as their originals are
  pub found-clones : (es fs : List (Entry K V)) → AllZip (IsEntryClone key value) es fs → (hash : StarlarkHashValue) (q : K) → is_some (found (eq q) hash fs) ≡ is_some (found (eq q) hash es)
  found-clones es fs all hash q = sym (is_some-found (eq q) hash fs) ∙ ap is_some (position-clones q hash es fs all) ∙ is_some-found (eq q) hash es

module _ {K V T U : Type 0} (eq : K → K → Bool) (laws : IsEquivalence eq) (feeds : K → HashWrites) (steps : T → Option (K × V) → T → Type 0) (becomes : U → T → Type 0) (iter : U) (m : Map K V) where
  pub has-items : FindsLast eq feeds steps becomes iter (λ _. None) m → HasItems eq feeds steps becomes iter m
  has-items (it, made, (p, from, whole, is)) =
      let came : K → V → K × V → Type 0 = λ key v x. (eq key x.0 ≡ true) × (x.1 ≡ v) in
      let values : (key : K) → IfSome (get eq feeds m key) (λ v. AnyItem p (came key v)) = λ key. subst (λ o. IfSome o (λ v. AnyItem p (came key v))) (sym (is key))
      (IfSome-update_all eq (λ v. AnyItem p (came key v)) key (λ _. None) p.items tt
      (λ k d below same. (k, omega (arith, below, p.long), rw (at-is p k, slice_get-get_or p.items k d below) (laws.symm key (get_or p.items k d).0 ∙ same, refl)))) in
      let keys : AllItems p (λ x. IsSome (get eq feeds m x.0)) = each p (λ x. IsSome (get eq feeds m x.0)) (λ k. at_some (slice_get p.items k) (λ x. IsSome (get eq feeds m x.0)) (λ x at.
      let there : slice_get (keys_of p.items) k ≡ Some x.0 = slice_get-map (λ (y : K × V). y.0) p.items k ∙ ap (option_map (λ (y : K × V). y.0)) at in
      ap is_some (is x.0) ∙ is_some-update_all laws x.0 (λ _. None) p.items ∙ any_passes_from_place (eq x.0) (keys_of p.items) k x.0 there (laws.refl x.0))) in
      (it, made, (p, from, whole, (values, keys)))
