-- What a look-up finds: the first index at which a list passes a test, as the list changes; the value under a key; and what the words
-- on look-ups say.
use Rattle.starlark_hash.proofs.Common.{common_steps, option_map_or, ◌≡◌, ℕ, suc, ◌<◌, Bool, true, false, eqb, List, [], ◌∷◌, ◌++◌, length, get_or, position, Option, Some, None, refl, sym, ap, ◌∙◌, arith, zero, map, is_some, slice_get, option_map, nat_tests, get_or_from_slice_get, slice_get-map, slice_get_within, ◌&&◌, IfSome, IsEquivalence, Contains, and_parts, get_or-map, length-map, same_Some}
use Rattle.starlark_hash.proofs.PositionLemmas.{position-cons, position-passes, position-within}
use Rattle.std.proofs.lemmas.Option.{gets}
pub use Rattle.std.proofs.Math.Bool.{and-false as and_false}
use Rattle.starlark_hash.specs.declared.hashed.Hashed.{Hashed}
use Rattle.starlark_hash.specs.declared.hash_value.StarlarkHashValue.{StarlarkHashValue}
use Rattle.starlark_hash.specs.HashValue.{hash_of, key_of}
use Rattle.starlark_hash.specs.Entries.{Entry, entry_key, set_value_at, with_value, without, value_at, match_of, position_of, entry_at, entry_value, is_under, pair_of, stands_under}
use Rattle.starlark_hash.specs.Lookup.{found, found_key}
use Rattle.std.specs.List.{IsAmong}
use Rattle.starlark_small.specs.Lookup.{HasKey, NamesIndex}
use Rattle.starlark_small.specs.Map.{Map}

module _ {X : Type 0} (p : X → Bool) where
  -- what was found is found in a longer list
  pub found_before : (xs ys : List X) (i : ℕ) → position p xs ≡ Some i → position p (xs ++ ys) ≡ Some i
  found_before [] ys i e = cc
  found_before (x ∷ xs) ys i e = grind (arith, common_steps, position-cons, found_before xs ys)

  -- an item that is pushed: the first that passes, or one that doesn't
  pub pushed_first : (xs : List X) (x : X) → position p xs ≡ None → p x ≡ true → position p (xs ++ x ∷ []) ≡ Some (length xs)
  pushed_first [] x none does = grind (arith, common_steps)
  pushed_first (y ∷ xs) x none does = grind (arith, common_steps, position-cons, pushed_first xs x)

  pub pushed_other : (xs : List X) (x : X) → p x ≡ false → position p (xs ++ x ∷ []) ≡ position p xs
  pushed_other [] x not = grind (arith, common_steps)
  pushed_other (y ∷ xs) x not = grind (arith, common_steps, position-cons, pushed_other xs x not)

  pub none_among : (xs : List X) → ((k : ℕ) (d : X) → k < length xs → p (get_or xs k d) ≡ false) → position p xs ≡ None
  none_among [] all = refl
  none_among (x ∷ xs) all = rw (position-cons p x xs, all 0 x (omega arith), none_among xs (λ k d below. all (suc k) d (omega arith))) refl

-- whether a key has this one's hash and is equal to it
abbrev pub alike : {K : Type 0} → (K → K → Bool) → Hashed K → Hashed K → Bool
alike eq key k = eqb (hash_of k).0 (hash_of key).0 && eq (key_of key) (key_of k)

module _ {K V : Type 0} (q : Hashed K → Bool) where
  -- a test of the keys
  abbrev tests : Entry K V → Bool
  tests e = q e.0

  -- written at the key's index
  pub written_here : (es : List (Entry K V)) (i : ℕ) (w : V) → position tests es ≡ Some i → value_at (set_value_at es i w) (position tests (set_value_at es i w)) ≡ Some w
  written_here [] i w at = cc
  written_here (e ∷ es) zero w at = grind (arith, common_steps, position-cons)
  written_here (e ∷ es) (suc i) w at = grind (arith, common_steps, position-cons, written_here es i w)

  -- pushed under another key; written, removed or inserted under one
  pub pushed_there : (es : List (Entry K V)) (e : Entry K V) → q e.0 ≡ false → value_at (es ++ e ∷ []) (position tests (es ++ e ∷ [])) ≡ value_at es (position tests es)
  pushed_there [] e not = grind (arith, common_steps, position-cons)
  pushed_there (d ∷ es) e not = grind (arith, common_steps, position-cons, pushed_there es e not)

  module _ (p : Hashed K → Bool) (apart : (k : Hashed K) → p k ≡ true → q k ≡ false) where
    pub written_there : (es : List (Entry K V)) (index : Option ℕ) (w : V) → position (λ e. p e.0) es ≡ index → value_at (with_value es index w) (position tests (with_value es index w)) ≡ value_at es (position tests es)
    written_there es None w at = refl
    written_there [] (Some i) w at = refl
    written_there (e ∷ es) (Some zero) w at = grind (arith, common_steps, position-cons, apart e.0)
    written_there (e ∷ es) (Some (suc i)) w at = grind (arith, common_steps, position-cons, written_there es (Some i) w)

    pub removed_there : (es : List (Entry K V)) (index : Option ℕ) → position (λ e. p e.0) es ≡ index → value_at (without es index) (position tests (without es index)) ≡ value_at es (position tests es)
    removed_there es None at = refl
    removed_there [] (Some i) at = cc
    removed_there (e ∷ es) (Some zero) at = grind (arith, common_steps, position-cons, apart e.0)
    removed_there (e ∷ es) (Some (suc i)) at = grind (arith, common_steps, position-cons, removed_there es (Some i))

    pub inserted_there : (es : List (Entry K V)) (index : Option ℕ) (e : Entry K V) → position (λ e. p e.0) es ≡ index → q e.0 ≡ false
        → value_at (option_map_or (λ i. set_value_at es i e.1) index (es ++ e ∷ [])) (position tests (option_map_or (λ i. set_value_at es i e.1) index (es ++ e ∷ []))) ≡ value_at es (position tests es)
    inserted_there es None e at not = pushed_there es e not
    inserted_there es (Some i) e at not = written_there es (Some i) e.1 at

  pub pushed_here : (es : List (Entry K V)) (e : Entry K V) → position tests es ≡ None → q e.0 ≡ true → value_at (es ++ e ∷ []) (position tests (es ++ e ∷ [])) ≡ Some e.1
  pushed_here [] e none does = grind (arith, common_steps, position-cons)
  pushed_here (d ∷ es) e none does = grind (arith, common_steps, position-cons, pushed_here es e)

-- a test of the keys under a hash
abbrev pub under : {K : Type 0} → StarlarkHashValue → (K → Bool) → Hashed K → Bool
under hash passes k = eqb (hash_of k).0 hash.0 && passes (key_of k)

-- a key is found where it was put
pub same_key : {K : Type 0} (eq : K → K → Bool) → IsEquivalence eq → (key : Hashed K) → alike eq key key ≡ true
same_key eq laws key = grind (arith, nat_tests, laws.refl (key_of key))

pub keys-set_value_at : {K V : Type 0} (es : List (Entry K V)) (i : ℕ) (value : V) → map entry_key (set_value_at es i value) ≡ map entry_key es
keys-set_value_at (e ∷ es) (suc i) value = ap (λ l. entry_key e ∷ l) (keys-set_value_at es i value)
keys-set_value_at es i value = refl

-- a query that passes a key under its hash finds what the key finds
pub position_of-match : {K V : Type 0} (eq : K → K → Bool) (passes : K → Bool) → ((x y : K) → passes x ≡ true → passes y ≡ eq x y) → (key : Hashed K) → passes (key_of key) ≡ true
    → (es : List (Entry K V)) → position_of (hash_of key) passes es ≡ match_of eq es key
position_of-match eq passes one key does es = λ i. position (λ e. eqb (hash_of e.0).0 (hash_of key).0 && one (key_of key) (key_of e.0) does i) es

-- there is a value where there is an index
pub is_some-value_at : {K V : Type 0} (hash : StarlarkHashValue) (passes : K → Bool) (es : List (Entry K V)) → is_some (value_at es (position_of hash passes es)) ≡ is_some (position_of hash passes es)
is_some-value_at hash passes es = grind (arith, common_steps, gets, position-within (stands_under hash passes) es)

-- a key that does not pass is no key that passes
pub apart_other : {K : Type 0} (eq : K → K → Bool) → IsEquivalence eq → (hash : StarlarkHashValue) (passes : K → Bool) → ((x y : K) → passes x ≡ true → passes y ≡ eq x y)
    → (other : Hashed K) → passes (key_of other) ≡ false → (k : Hashed K) → under hash passes k ≡ true → alike eq other k ≡ false
apart_other eq laws hash passes one other not k does = grind (arith, nat_tests, common_steps, one (key_of k) (key_of other), laws.symm (key_of k) (key_of other))

module _ {K V : Type 0} (test : K → Bool) (hash : StarlarkHashValue) (es : List (Entry K V)) where
  -- the word is a look-up
  pub found_is : (o : Option V) → o ≡ value_at es (position_of hash test es) → o ≡ found test hash es
  unfolding found
  found_is o is = is

  -- there is a value where there is an index
  pub is_some-found : is_some (position_of hash test es) ≡ is_some (found test hash es)
  unfolding found
  is_some-found = sym (is_some-value_at hash test es)

  pub none_found : position_of hash test es ≡ None → found test hash es ≡ None
  unfolding found
  none_found is = ap (value_at es) is

-- nothing is found in an empty list
pub empty-found : {K V : Type 0} (es : List (Entry K V)) → es ≡ [] → (test : K → Bool) (hash : StarlarkHashValue) → found test hash es ≡ None
unfolding found
empty-found es none test hash = ap (λ l. value_at l (position_of hash test l)) none

-- what is found is among the values
pub value-among : {K V : Type 0} (es : List (Entry K V)) (index : Option ℕ) (o : Option V) → o ≡ value_at es index → IfSome o (λ v. IsAmong (map entry_value es) v)
value-among es index None is = tt
value-among es None (Some v) is = cc
value-among es (Some i) (Some v) is =
    let at : slice_get (map entry_value es) i ≡ Some v = slice_get-map entry_value es i ∙ sym is in
    (i, (slice_get_within (map entry_value es) i v at, sym (get_or_from_slice_get (map entry_value es) i v v at)))

-- a value that is written where it was found leaves the list as it was
set_value_at-value : {K V : Type 0} (es : List (Entry K V)) (i : ℕ) (w : V) → value_at es (Some i) ≡ Some w → set_value_at es i w ≡ es
set_value_at-value [] i w is = refl
set_value_at-value (e ∷ es) zero w is = ap (λ v. (e.0, v) ∷ es) (sym (same_Some (entry_value e) w is))
set_value_at-value (e ∷ es) (suc i) w is = ap (λ l. e ∷ l) (set_value_at-value es i w is)

pub set_value_at-found : {K V : Type 0} (test : K → Bool) (hash : StarlarkHashValue) (es : List (Entry K V)) (i : ℕ) (w : V) → position_of hash test es ≡ Some i → found test hash es ≡ Some w → set_value_at es i w ≡ es
unfolding found
set_value_at-found test hash es i w at is = set_value_at-value es i w (sym (ap (value_at es) at) ∙ is)

module _ {K V : Type 0} (test : K → Bool) (hash : StarlarkHashValue) where
  -- a key of the list passes where there is an index
  pub has-key : (es : List (Entry K V)) (i : ℕ) → position_of hash test es ≡ Some i → (key : K) × Contains (map entry_key es) key × (test key ≡ true)
  has-key [] i at = cc
  has-key (e ∷ es) i at =
      let p = stands_under hash test in
      let below = position-within p (e ∷ es) i at in
      let here = get_or (e ∷ es) i e in (
        entry_key here,
        (i, omega (arith, below, length-map (e ∷ es) (entry_key {K = K} {V = V})), get_or-map entry_key (e ∷ es) i e (entry_key here) below),
        (and_parts (is_under hash here) (test (entry_key here)) (position-passes p (e ∷ es) i e at)).1,
      )

-- What is found, by index: `found` and `found_key` are read at `position_of`.
module _ {K V : Type 0} (test : K → Bool) (hash : StarlarkHashValue) (es : List (Entry K V)) where
  pub found-value_at : found test hash es ≡ value_at es (position_of hash test es)
  unfolding found
  found-value_at = refl

  pub found_key-entry_at : found_key test hash es ≡ option_map entry_key (entry_at es (position_of hash test es))
  unfolding found_key
  found_key-entry_at = refl

  -- there is no index where nothing is found
  pub position_of-found : found test hash es ≡ None → position_of hash test es ≡ None
  position_of-found is = grind (arith, common_steps, is_some-found test hash es)

  -- the pair at the index, where the stored key and the value were found
  pub entry_at-found : (o : Option (K × V)) → option_map (λ p. p.0) o ≡ found_key test hash es → option_map (λ p. p.1) o ≡ found test hash es → o ≡ option_map pair_of (entry_at es (position_of hash test es))
  unfolding found found_key
  entry_at-found o key value = grind (arith, common_steps)

  -- what is found is among the values
  pub IsAmong-found : IfSome (found test hash es) (λ v. IsAmong (map entry_value es) v)
  IsAmong-found = value-among es (position_of hash test es) (found test hash es) found-value_at

  -- the key at the index is the one that is found
  pub finds-key : (o : Option K) → o ≡ option_map entry_key (entry_at es (position_of hash test es)) → o ≡ found_key test hash es
  unfolding found_key
  finds-key o is = is

module _ {K V : Type 0} (test : K → Bool) (hash : StarlarkHashValue) (m : Map K V) where
  -- the index that a test names is where a value is found
  pub names-index : (o : Option ℕ) → o ≡ position_of hash test m.entries → NamesIndex test hash m o
  names-index o is = record {
    index = is;
    found = ap is_some is ∙ is_some-found test hash m.entries;
    within = grind (arith, common_steps, position-within (stands_under hash test) m.entries);
    key = elim o as (λ o. o ≡ position_of hash test m.entries → IfSome o (λ _. HasKey test m)) [ None ↦ λ is. tt | Some i ↦ λ is. has-key test hash m.entries i (sym is) ] is;
  }

-- the facts on look-ups that layers state by index, as one ruleset
pub ruleset look_ups = (names-index, found_is, finds-key, found-value_at, found_key-entry_at, is_some-found, position_of-found, entry_at-found)
