-- What holds of all keys, values and pairs of a map, and what is among them, after an insertion, a removal and a write by index.
-- Each takes the record that is the call's clause.
use Rattle.starlark_hash.proofs.Common.{and_parts, take, drop, length-set, set, length-map, get_or-set_same, All-append, All-contains, All-weaker, ◌≡◌, ℕ, suc, ◌<◌, Bool, true, eqb, List, [], ◌∷◌, ◌++◌, length, map, get_or, remove, Option, Some, None, refl, sym, ap, subst, arith, All, Contains, option_map_or, IsEquivalence, map-append, All-push}
use Rattle.std.proofs.lemmas.List.Elements.{All-take, All-drop, All-set, All-contains_itself, Contains-append_left, Contains-push}
use mathlib.Core.Logic.{◌⊎◌, inl, inr}
use Rattle.starlark_vecmap.proofs.Views.{map-remove}
use Rattle.starlark_hash.specs.declared.hashed.Hashed.{Hashed}
use Rattle.starlark_hash.specs.declared.hash_value.StarlarkHashValue.{StarlarkHashValue}
use Rattle.starlark_hash.specs.HashValue.{hash_of, key_of}
use Rattle.starlark_hash.specs.Entries.{Entry, entry_key, entry_value, pair_of, match_of, position_of, set_value_at, with_value}
use Rattle.starlark_hash.proofs.PositionLemmas.{position-passes, position-within}
use Rattle.starlark_small.specs.Lookup.{keys}
use Rattle.starlark_small.specs.Remove.{Removes, RemovesAt}
use Rattle.starlark_small.specs.Insert.{Inserts}
use Rattle.starlark_small.specs.Map.{Map}
use Rattle.starlark_small.proofs.CallerLookup.{alike, keys-set_value_at}

-- what is in a list was in one of which all that holds holds of this list too
from-before : {X : Type 0} (xs ys : List X) (y : X) → ((P : X → Type 0) → All P xs → All P ys) → Contains ys y → Contains xs y
from-before xs ys y all at = All-contains (Contains xs) ys y (all (Contains xs) (All-contains_itself xs)) at

-- an item of a list to which one item may have been added
cases-from : {X : Type 0} (xs ys : List X) (x y : X) → ((P : X → Type 0) → All P xs → P x → All P ys) → Contains ys y → Contains xs y ⊎ (x ≡ y)
cases-from xs ys x y all at =
    let P = λ (z : _). Contains xs z ⊎ (x ≡ z) in All-contains P ys y (all P (All-weaker (Contains xs) P (λ z. inl) xs (All-contains_itself xs)) (inr refl)) at

-- whatever is read of each entry: its key, its value or both
module _ {K V X : Type 0} (f : Entry K V → X) where
  -- a removal brings nothing new
  all-without : (P : X → Type 0) (es : List (Entry K V)) (index : Option ℕ) → All P (map f es) → All P (map f (option_map_or (remove es) index es))
  all-without P es None all = all
  all-without P es (Some i) all = rw (map-remove f es i) (All-append P (take i (map f es)) (drop (suc i) (map f es)) (All-take P i (map f es) all) (All-drop P (suc i) (map f es) all))

  -- what is appended is the last item
  all-pushed : (P : X → Type 0) (es : List (Entry K V)) (e : Entry K V) → All P (map f es) → P (f e) → All P (map f (es ++ e ∷ []))
  all-pushed P es e all p = rw (map-append f es (e ∷ [])) (All-push P (map f es) (f e) all p)

  -- a value that is written is at its key
  map-set_value_at : (es : List (Entry K V)) (i : ℕ) (w : V) (d : Entry K V) → map f (set_value_at es i w) ≡ set (map f es) i (f ((get_or es i d).0, w))
  map-set_value_at (e ∷ es) (suc i) w d = ap (λ l. f e ∷ l) (map-set_value_at es i w d)
  map-set_value_at es i w d = refl

  all-written : (P : X → Type 0) (es : List (Entry K V)) (i : ℕ) (w : V) → All P (map f es) → ((d : Entry K V) → P (f ((get_or es i d).0, w))) → All P (map f (set_value_at es i w))
  all-written P [] i w all p = all
  all-written P (e ∷ es) i w all p = rw (map-set_value_at (e ∷ es) i w e) (All-set P (map f (e ∷ es)) i (f ((get_or (e ∷ es) i e).0, w)) (p e) all)

-- An insertion appends a new key, or writes the value at a key that stays.
module _ {K V : Type 0} {eq : K → K → Bool} {before after : Map K V} {key : Hashed K} {value : V} (inserts : Inserts eq before after key value) where
  by-index : (F : List (Entry K V) → Type 0) → F (before.entries ++ (key, value) ∷ []) → ((i : ℕ) → match_of eq before.entries key ≡ Some i → F (set_value_at before.entries i value)) → F after.entries
  by-index F last there = subst F (sym inserts.entries)
      ((elim (match_of eq before.entries key) as (λ o. match_of eq before.entries key ≡ o → F (option_map_or (λ i. set_value_at before.entries i value) o (before.entries ++ (key, value) ∷ []))) [
        | None ↦ λ none. last
        | Some i ↦ there i
      ]) refl)

  -- the stored key at the index that was found is equal to the key
  equal-at : (i : ℕ) (d : Entry K V) → match_of eq before.entries key ≡ Some i → eq (key_of key) (entry_key (get_or before.entries i d)) ≡ true
  equal-at i d at = (and_parts (eqb (hash_of (get_or before.entries i d).0).0 (hash_of key).0) (eq (key_of key) (entry_key (get_or before.entries i d))) (position-passes (λ e. alike eq key e.0) before.entries i d at)).1

  pub All-keys-inserts : (P : K → Type 0) → All P (keys before) → P (key_of key) → All P (keys after)
  All-keys-inserts P all p = by-index (λ es. All P (map entry_key es))
      (all-pushed entry_key P before.entries (key, value) all p)
      (λ i at. subst (All P) (sym (keys-set_value_at before.entries i value)) all)

  pub All-values-inserts : (P : V → Type 0) → All P (map entry_value before.entries) → P value → All P (map entry_value after.entries)
  All-values-inserts P all p = by-index (λ es. All P (map entry_value es))
      (all-pushed entry_value P before.entries (key, value) all p)
      (λ i at. all-written entry_value P before.entries i value all (λ d. p))

  -- the stored key is the one that was there, if an equal one was
  pub All-pairs-inserts : IsEquivalence eq → (P : K × V → Type 0) → All P (map pair_of before.entries) → ((k : K) → eq (key_of key) k ≡ true → P (k, value)) → All P (map pair_of after.entries)
  All-pairs-inserts laws P all p = by-index (λ es. All P (map pair_of es))
      (all-pushed pair_of P before.entries (key, value) all (p (key_of key) (laws.refl (key_of key))))
      (λ i at. all-written pair_of P before.entries i value all (λ d. p (entry_key (get_or before.entries i d)) (equal-at i d at)))

  -- what is read of the entry is there, if it is the same at the stored key
  one-inserts : {X : Type 0} (f : Entry K V → X) → ((i : ℕ) → match_of eq before.entries key ≡ Some i → f ((get_or before.entries i (key, value)).0, value) ≡ f (key, value)) → Contains (map f after.entries) (f (key, value))
  one-inserts f same = by-index (λ es. Contains (map f es) (f (key, value)))
      (rw (map-append f before.entries ((key, value) ∷ [])) (Contains-push (map f before.entries) (f (key, value))))
      (λ i at.
      let x = f (key, value) in
      let there : i < length (map f before.entries) = omega (arith, length-map before.entries f, position-within (λ e. alike eq key e.0) before.entries i at) in
      rw (map-set_value_at f before.entries i value (key, value), same i at) (i, omega (arith, there, length-set (map f before.entries) i x), get_or-set_same (map f before.entries) i x x there))

  pub Contains-values-inserts : Contains (map entry_value after.entries) value
  Contains-values-inserts = one-inserts entry_value (λ i at. refl)

  pub Contains-values-inserts_cases : (v : V) → Contains (map entry_value after.entries) v → Contains (map entry_value before.entries) v ⊎ (value ≡ v)
  Contains-values-inserts_cases v = cases-from (map entry_value before.entries) (map entry_value after.entries) value v All-values-inserts

  -- keys that were there stay, and only the inserted one is new
  pub Contains-keys-inserts_other : (k : K) → Contains (keys before) k → Contains (keys after) k
  Contains-keys-inserts_other k there = by-index (λ es. Contains (map entry_key es) k)
      (rw (map-append entry_key before.entries ((key, value) ∷ [])) (Contains-append_left (keys before) (key_of key ∷ []) k there))
      (λ i at. rw (keys-set_value_at before.entries i value) there)

  pub Contains-keys-inserts_cases : (k : K) → Contains (keys after) k → Contains (keys before) k ⊎ (key_of key ≡ k)
  Contains-keys-inserts_cases k = cases-from (keys before) (keys after) (key_of key) k All-keys-inserts

  -- if equal keys are the same, as numbers are, the key and its pair are among the new ones
  module _ (exact : (x y : K) → eq x y ≡ true → x ≡ y) where
    same-at : (i : ℕ) → match_of eq before.entries key ≡ Some i → entry_key (get_or before.entries i (key, value)) ≡ key_of key
    same-at i at = sym (exact (key_of key) (entry_key (get_or before.entries i (key, value))) (equal-at i (key, value) at))

    pub Contains-pairs-inserts : Contains (map pair_of after.entries) (key_of key, value)
    Contains-pairs-inserts = one-inserts pair_of (λ i at. ap (λ k. (k, value)) (same-at i at))

    pub Contains-keys-inserts : Contains (keys after) (key_of key)
    Contains-keys-inserts = one-inserts entry_key same-at

-- A removal brings nothing new, whatever is read of each entry: `entry_key`, `entry_value` or `pair_of`.
module _ {K V X : Type 0} (f : Entry K V → X) {eq : K → K → Bool} {old new : Map K V} where
  module _ {test : K → Bool} {hash : StarlarkHashValue} (removes : Removes eq test hash old new) where
    pub All-removes : (P : X → Type 0) → All P (map f old.entries) → All P (map f new.entries)
    All-removes P all = subst (λ es. All P (map f es)) (sym removes.entries) (all-without f P old.entries (position_of hash test old.entries) all)

    pub Contains-removes : (x : X) → Contains (map f new.entries) x → Contains (map f old.entries) x
    Contains-removes x = from-before (map f old.entries) (map f new.entries) x All-removes

module _ {K V X : Type 0} (f : Entry K V → X) {old new : Map K V} {index : ℕ} (removes : RemovesAt old new index) where
  pub All-removes_at : (P : X → Type 0) → All P (map f old.entries) → All P (map f new.entries)
  All-removes_at P all = subst (λ es. All P (map f es)) (sym removes.entries) (all-without f P old.entries (Some index) all)

  pub Contains-removes_at : (x : X) → Contains (map f new.entries) x → Contains (map f old.entries) x
  Contains-removes_at x = from-before (map f old.entries) (map f new.entries) x All-removes_at

-- A value that is written at an index, as a loan of `get_mut` leaves it, moves no key.
module _ {K V : Type 0} (old new : Map K V) (index : Option ℕ) (w : V) (is : new ≡ record old { entries = with_value old.entries index w }) where
  pub All-values-writes : (P : V → Type 0) → All P (map entry_value old.entries) → P w → All P (map entry_value new.entries)
  All-values-writes P all p = rw (ap (λ (m : Map K V). m.entries) is) (elim index as (λ o. All P (map entry_value (with_value old.entries o w))) [ None ↦ all | Some i ↦ all-written entry_value P old.entries i w all (λ d. p) ])

  pub Contains-values-writes_cases : (v : V) → Contains (map entry_value new.entries) v → Contains (map entry_value old.entries) v ⊎ (w ≡ v)
  Contains-values-writes_cases v = cases-from (map entry_value old.entries) (map entry_value new.entries) w v All-values-writes

-- the ruleset of all of these
pub ruleset members = (All-keys-inserts, All-values-inserts, All-pairs-inserts, Contains-values-inserts, Contains-values-inserts_cases, Contains-keys-inserts, Contains-keys-inserts_other, Contains-keys-inserts_cases, Contains-pairs-inserts, All-removes, Contains-removes, All-removes_at, Contains-removes_at, All-values-writes, Contains-values-writes_cases)
