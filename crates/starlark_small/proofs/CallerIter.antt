-- Iterators: each value that they yield is found, their number, and which keys are found after one that writes.
use Rattle.std.proofs.lemmas.Bool.{false_from_ne_true}
use Rattle.starlark_hash.specs.HashValue.{hash_number}
use Rattle.starlark_hash.specs.Hasher.{own_hash}
use Rattle.starlark_small.specs.Lookup.{AreOwnEntries}
use Rattle.starlark_small.specs.Map.{Map}
use Rattle.starlark_hash.proofs.Common.{common_steps, get_or, true, nat_tests, slice_get-map, ◌≡◌, ℕ, Bool, List, [], ◌∷◌, map, Option, Some, None, slice_get, refl, sym, ap, ◌∙◌, subst, is_some, arith, IfSome, IsEquivalence, option_map, length-map}
use Rattle.starlark_vecmap.proofs.Views.{values_of-pair_of}
use Rattle.starlark_hash.specs.declared.hash_value.StarlarkHashValue.{StarlarkHashValue}
use Rattle.starlark_hash.specs.Entries.{Entry, IsSingle, entry_hash, entry_key, entry_value, position_of, value_at}
use Rattle.starlark_hash.specs.Lookup.{found}
use Rattle.starlark_small.specs.Iter.{AreFound, HasDistinctKeys, IsOwnOf}
use Rattle.starlark_small.proofs.CallerRemove.{found-placed, own-placed}
use Rattle.starlark_hash.proofs.PositionLemmas.{position-cons}
use Rattle.starlark_vecmap.specs.EntryList.{with_values}
use Rattle.starlark_small.proofs.CallerLookup.{is_some-found, value-among}
use Rattle.std.proofs.lemmas.Option.{IfSome_then, slice_get_read}

module _ {K V : Type 0} (eq : K → K → Bool) (laws : IsEquivalence eq) (es : List (Entry K V)) (single : IsSingle eq es) where
  each-found : (i : ℕ) (o : Option (Entry K V)) → slice_get es i ≡ o → IfSome (option_map entry_value o) (λ v. (under : StarlarkHashValue) × (key : K) × (found (eq key) under es ≡ Some v) × IsOwnOf eq es key under)
  each-found i None at = tt
  each-found i (Some e) at = (entry_hash e, entry_key e, found-placed eq laws es i e single at, λ feeds. own-placed feeds es i e at)

  -- no two entries have one hash and equal keys
  pub values-found : (values : List V) → values ≡ map entry_value es → AreFound eq es values
  unfolding found
  values-found values are = subst (AreFound eq es) (sym are) (
    (λ under key. IfSome_then (value_at es (position_of under (eq key) es)) (value-among es (position_of under (eq key) es) _ refl)
        (λ v at. (at.0, at.1.0, slice_get_read (map entry_value es) _ at.0 v refl at.1.0 at.1.1))),
    (λ i. rw (slice_get-map entry_value es i) (each-found i (slice_get es i) refl)),
  )

-- no two keys are equal if no two entries have one hash and equal keys, and each key is under its own hash
pub has-distinct_keys : {K V : Type 0} (eq : K → K → Bool) (m : Map K V) → IsSingle eq m.entries → HasDistinctKeys eq m
unfolding AreOwnEntries
has-distinct_keys eq m single feeds alike own = λ i j d before below.
    let es = m.entries in
    let x = get_or es i d in
    let y = get_or es j d in
    false_from_ne_true (eq (entry_key x) (entry_key y)) (λ same.
    let one : entry_hash y ≡ entry_hash x = own j d below ∙ sym (λ k. own_hash (λ _. alike (entry_key x) (entry_key y) same k) (entry_key x)) ∙ sym (own i d (omega (arith, before, below))) in
    grind (arith, nat_tests, ap hash_number one, single i j d before below, same))

module _ {K V : Type 0} (test : K → Bool) (hash : StarlarkHashValue) where
  position-with_values : (es ws : List (Entry K V)) → position_of hash test (with_values es ws) ≡ position_of hash test es
  position-with_values [] ws = refl
  position-with_values (e ∷ es) [] = grind (arith, common_steps, position-cons, position-with_values es [])
  position-with_values (e ∷ es) (w ∷ ws) = grind (arith, common_steps, position-cons, position-with_values es ws)

  -- a key is there after values were written exactly if it was
  pub found-with_values : (es ws : List (Entry K V)) → is_some (found test hash (with_values es ws)) ≡ is_some (found test hash es)
  found-with_values es ws = sym (is_some-found test hash (with_values es ws)) ∙ ap is_some (position-with_values es ws) ∙ is_some-found test hash es

-- the facts that the calls that make iterators want
pub ruleset walked = (values_of-pair_of, length-map)
