-- Entries under own hashes, seen as the list of their pairs: look-up, insertion, removal.
use Rattle.starlark_hash.proofs.Common.{◌≡◌, ℕ, zero, suc, Bool, true, false, cond, List, [], ◌∷◌, ◌++◌, Option, Some, None, refl, sym, ap, ◌∙◌, arith, common_steps, nat_tests, position, option_map, option_map_or, map, remove, All, All-head, All-tail, HashWrites, IsTrue, ◌<◌, length, get_or, length-map, Bor, IfSome, option_copied, slice_get, slice_get-map}
use Rattle.std.specs.Map.{lookup, lookup_key, remove_entry, set_value, keys_of, values_of}
use Rattle.std.specs.List.{IsAmong, IsDistinct}
use Rattle.std.proofs.lemmas.Map.Keys.{IsDistinct-from_apart}
use Rattle.starlark_hash.specs.declared.hash_value.StarlarkHashValue.{StarlarkHashValue}
use Rattle.starlark_hash.specs.declared.hashed.Hashed.{Hashed}
use Rattle.starlark_hash.specs.Hasher.{hash_of_writes, own_hash}
use Rattle.starlark_hash.specs.HashValue.{hash_of, key_of}
use Rattle.starlark_hash.specs.Entries.{Entry, entry_at, entry_hash, entry_key, entry_value, IsSingle, pair_of, position_of, set_value_at, stands_under, value_at, with_value, without}
use Rattle.starlark_hash.specs.Insert as list
use Rattle.starlark_hash.specs.Lookup.{found, found_key}
use Rattle.starlark_hash.proofs.PositionLemmas.{position-cons, position-map}
use Rattle.starlark_small.specs.Along.{an-item}
use Rattle.starlark_small.specs.Lookup.{AreOwnEntries}
use Rattle.starlark_hash.proofs.EntryLemmas.{length-set_value_at, set_value_at-key}
use Rattle.starlark_small.specs.Map.{own_hashed}
use Rattle.starlark_dict.specs.Dict.{insert_entry}

-- the key of a pair is that of the entry
key_at : {K V : Type 0} (es : List (Entry K V)) (k : ℕ) (d : K) (e : Entry K V) → k < length es → get_or (keys_of (map pair_of es)) k d ≡ entry_key (get_or es k e)
key_at [] k d e below = absurd (omega (arith, below))
key_at (x ∷ es) zero d e below = refl
key_at (x ∷ es) (suc k) d e below = key_at es k d e (omega (arith, below))

module _ {K V : Type 0} (feeds : K → HashWrites) (test : K → Bool) (hash : StarlarkHashValue) (agrees : (k : K) → test k ≡ true → own_hash feeds k ≡ hash) where
  abbrev is_own : Entry K V → Type 0
  is_own e = entry_hash e ≡ own_hash feeds (entry_key e)

  abbrev passes : Entry K V → Bool
  passes e = test (entry_key e)

  stands_own : (e : Entry K V) → is_own e → stands_under hash test e ≡ test (entry_key e)
  stands_own e own = grind (arith, nat_tests, own, agrees (entry_key e))

  position_own : (es : List (Entry K V)) → All is_own es → position_of hash test es ≡ position passes es
  position_own [] own = refl
  position_own (e ∷ es) own = cc (position-cons (stands_under hash test) e es, position-cons passes e es, stands_own e (All-head is_own e es own), position_own es (All-tail is_own e es own))

  looked_up : (es : List (Entry K V)) → value_at es (position passes es) ≡ lookup test (map pair_of es)
  looked_up [] = refl
  looked_up (e ∷ es) = grind (arith, common_steps, position-cons, looked_up es)

  key_looked_up : (es : List (Entry K V)) → option_map entry_key (entry_at es (position passes es)) ≡ lookup_key test (map pair_of es)
  key_looked_up [] = refl
  key_looked_up (e ∷ es) = grind (arith, common_steps, position-cons, key_looked_up es)

  cut_from : (b : Bool) (o : Option ℕ) (e : Entry K V) (es : List (Entry K V))
      → map pair_of (option_map_or (remove (e ∷ es)) (cond b (Some 0) (option_map suc o)) (e ∷ es)) ≡ cond b (map pair_of es) (pair_of e ∷ map pair_of (option_map_or (remove es) o es))
  cut_from true o e es = refl
  cut_from false None e es = refl
  cut_from false (Some i) e es = refl

  cut_out : (es : List (Entry K V)) → map pair_of (option_map_or (remove es) (position passes es) es) ≡ remove_entry test (map pair_of es)
  cut_out [] = refl
  cut_out (e ∷ es) =
      ap (λ o. map pair_of (option_map_or (remove (e ∷ es)) o (e ∷ es))) (position-cons passes e es)
      ∙ cut_from (test (entry_key e)) (position passes es) e es
      ∙ ap (λ ps. cond (test (entry_key e)) (map pair_of es) (pair_of e ∷ ps)) (cut_out es)

  written : (es : List (Entry K V)) (w : V) → map pair_of (with_value es (position passes es) w) ≡ set_value test (map pair_of es) w
  written [] w = refl
  written (e ∷ es) w = grind (arith, common_steps, position-cons, written es w)

  -- what a look-up finds
  pub found-own : (es : List (Entry K V)) → AreOwnEntries feeds es → found test hash es ≡ lookup test (map pair_of es)
  unfolding found AreOwnEntries
  found-own es own = ap (value_at es) (position_own es own) ∙ looked_up es

  pub found_key-own : (es : List (Entry K V)) → AreOwnEntries feeds es → found_key test hash es ≡ lookup_key test (map pair_of es)
  unfolding found_key AreOwnEntries
  found_key-own es own = ap (λ o. option_map entry_key (entry_at es o)) (position_own es own) ∙ key_looked_up es

  pub position-own : (es : List (Entry K V)) → AreOwnEntries feeds es → position_of hash test es ≡ position test (keys_of (map pair_of es))
  unfolding AreOwnEntries
  position-own es own = position_own es own ∙ sym (position-map (λ p. p.0) test (map pair_of es) ∙ position-map pair_of (λ p. test p.0) es)

  -- what a removal leaves
  pub pairs-removed : (es : List (Entry K V)) → AreOwnEntries feeds es → map pair_of (without es (position_of hash test es)) ≡ remove_entry test (map pair_of es)
  unfolding AreOwnEntries
  pairs-removed es own = ap (λ o. map pair_of (without es o)) (position_own es own) ∙ cut_out es

  -- what a write leaves
  pub pairs-written : (es : List (Entry K V)) (w : V) → AreOwnEntries feeds es → map pair_of (with_value es (position_of hash test es) w) ≡ set_value test (map pair_of es) w
  unfolding AreOwnEntries
  pairs-written es w own = ap (λ o. map pair_of (with_value es o w)) (position_own es own) ∙ written es w

module _ {K : Type 0} (eq : K → K → Bool) (feeds : K → HashWrites) (alike : (x y : K) → IsTrue (eq x y) → feeds x ≡ feeds y) where
  pub same_hash : (key k : K) → eq key k ≡ true → own_hash feeds k ≡ own_hash feeds key
  same_hash key k same = ap hash_of_writes (sym (alike key k same))

module _ {K V : Type 0} (eq : K → K → Bool) (feeds : K → HashWrites) (alike : (x y : K) → IsTrue (eq x y) → feeds x ≡ feeds y) where
  -- no two keys of the pairs are equal
  apart_own : (d e : Entry K V) → is_own feeds (eq (entry_key d)) (own_hash feeds (entry_key d)) (same_hash eq feeds alike (entry_key d)) d → is_own feeds (eq (entry_key d)) (own_hash feeds (entry_key d)) (same_hash eq feeds alike (entry_key d)) e
      → stands_under (entry_hash d) (eq (entry_key d)) e ≡ false → eq (entry_key d) (entry_key e) ≡ false
  apart_own d e own_d own_e apart =
      sym (stands_own feeds (eq (entry_key d)) (own_hash feeds (entry_key d)) (same_hash eq feeds alike (entry_key d)) e own_e) ∙ ap (λ h. stands_under h (eq (entry_key d)) e) (sym own_d) ∙ apart

  pub unique-own : (es : List (Entry K V)) → IsSingle eq es → AreOwnEntries feeds es → IsDistinct eq (keys_of (map pair_of es))
  unfolding AreOwnEntries
  unique-own es single own = IsDistinct-from_apart eq (keys_of (map pair_of es)) (λ i j d before below.
      let inside : j < length es = omega (arith, below, length-map (map pair_of es) (λ p. p.0), length-map es pair_of) in
      let e = an-item es j inside in
      rw (key_at es i d e (omega arith), key_at es j d e inside) (apart_own (get_or es i e) (get_or es j e) (own i e (omega arith)) (own j e inside) (single i j e before inside)))

  put_in : (key : Hashed K) (value : V) (es : List (Entry K V))
      → map pair_of (option_map_or (λ i. set_value_at es i value) (position (λ (e : Entry K V). eq (key_of key) (entry_key e)) es) (es ++ (key, value) ∷ [])) ≡ insert_entry eq (map pair_of es) (key_of key) value
  put_in key value [] = grind (arith, common_steps)
  put_in key value (e ∷ es) = grind (arith, common_steps, position-cons, put_in key value es)

  -- what an insertion leaves
  pub pairs-inserted : (key : K) (value : V) (es : List (Entry K V)) → AreOwnEntries feeds es → map pair_of (list.insert_entry eq es (own_hashed feeds key) value) ≡ insert_entry eq (map pair_of es) key value
  unfolding AreOwnEntries
  pairs-inserted key value es own =
      ap (λ o. map pair_of (option_map_or (λ i. set_value_at es i value) o (es ++ (own_hashed feeds key, value) ∷ []))) (position_own feeds (eq key) (own_hash feeds key) (same_hash eq feeds alike key) es own)
      ∙ put_in (own_hashed feeds key) value es

module _ {Q K V : Type 0} (stands : Q → K → Bool) (query_feeds : Q → HashWrites) (feeds : K → HashWrites) (alike : (q : Q) (k : K) → IsTrue (stands q k) → query_feeds q ≡ feeds k) (query : Hashed Q) (is : hash_of query ≡ own_hash query_feeds (key_of query)) (es : List (Entry K V)) where
  agreeing : (k : K) → stands (key_of query) k ≡ true → own_hash feeds k ≡ hash_of query
  agreeing k does = ap hash_of_writes (sym (alike (key_of query) k does)) ∙ sym is

  -- by a query under its own hash that feeds what its keys feed
  pub found-query : AreOwnEntries feeds es → found (stands (key_of query)) (hash_of query) es ≡ lookup (stands (key_of query)) (map pair_of es)
  found-query own = found-own feeds (stands (key_of query)) (hash_of query) agreeing es own

  pub found_key-query : AreOwnEntries feeds es → found_key (stands (key_of query)) (hash_of query) es ≡ lookup_key (stands (key_of query)) (map pair_of es)
  found_key-query own = found_key-own feeds (stands (key_of query)) (hash_of query) agreeing es own

  pub position-query : AreOwnEntries feeds es → position_of (hash_of query) (stands (key_of query)) es ≡ position (stands (key_of query)) (keys_of (map pair_of es))
  position-query own = position-own feeds (stands (key_of query)) (hash_of query) agreeing es own

  pub removed-query : AreOwnEntries feeds es → map pair_of (without es (position_of (hash_of query) (stands (key_of query)) es)) ≡ remove_entry (stands (key_of query)) (map pair_of es)
  removed-query own = pairs-removed feeds (stands (key_of query)) (hash_of query) agreeing es own

  pub written-query : (w : V) → AreOwnEntries feeds es → map pair_of (with_value es (position_of (hash_of query) (stands (key_of query)) es) w) ≡ set_value (stands (key_of query)) (map pair_of es) w
  written-query w own = pairs-written feeds (stands (key_of query)) (hash_of query) agreeing es w own

module _ {K V : Type 0} where
  -- keys stay under their own hashes, whatever value is written
  pub own-written : (feeds : K → HashWrites) (es : List (Entry K V)) (index : Option ℕ) (w : V) → AreOwnEntries feeds es → AreOwnEntries feeds (with_value es index w)
  unfolding AreOwnEntries
  own-written feeds es None w own = own
  own-written feeds es (Some i) w own = λ k d below. simp set_value_at-key (own k d (omega (arith, below, length-set_value_at es i w)))

  -- values and their number
  pub values-pairs : (es : List (Entry K V)) → values_of (map pair_of es) ≡ map entry_value es
  values-pairs [] = refl
  values-pairs (e ∷ es) = ap (λ l. entry_value e ∷ l) (values-pairs es)

  pub keys-pairs : (es : List (Entry K V)) → keys_of (map pair_of es) ≡ map entry_key es
  keys-pairs [] = refl
  keys-pairs (e ∷ es) = ap (λ l. entry_key e ∷ l) (keys-pairs es)

  pub length-pairs : (es : List (Entry K V)) → length (map pair_of es) ≡ length es
  length-pairs es = length-map es pair_of

  pub pair-at : (es : List (Entry K V)) (i : ℕ) → slice_get (map pair_of es) i ≡ option_map pair_of (slice_get es i)
  pair-at es i = slice_get-map pair_of es i

  -- what is among the entries' values is among the pairs' values
  pub among-pairs : (es : List (Entry K V)) (r : Option (Bor V)) → IfSome (option_copied r) (IsAmong (map entry_value es)) → IfSome r (λ v. IsAmong (values_of (map pair_of es)) v.now)
  among-pairs es None among = tt
  among-pairs es (Some v) among = rw (values-pairs es) among

pub ruleset own_pairs = (found-query, found_key-query, position-query, unique-own, length-pairs, keys-pairs, values-pairs, pair-at, among-pairs)
