-- A dictionary's keys as a set.
use Rattle.starlark_hash.proofs.Common.{[], ◌∷◌, ◌≡◌, Bool, IfSome, List, None, Option, Ordering, Some, ap, arith, common_steps, is_lt, is_some, keys_of, length, length-map, lookup, map, option_map, refl, reverse, subst, sym}
use Rattle.std.specs.List.{find, list_any}
use Rattle.std.specs.Map.{lookup_key, remove_entry}
use Rattle.std.specs.Set.{remove_key}
use Rattle.std_collections.proofs.SetKeys.{contains_seen, get_seen, removed_seen}
use Rattle.std_collections.specs.Layout.HashMap.{hash_map}
use Rattle.std_collections.specs.Layout.HashSet.{key_set}
use Rattle.starlark_dict.specs.Dict as dict
use Rattle.starlark_dict.specs.Dict.{Dict}
use Rattle.starlark_dict.specs.DictSet.{KeepsMemory, KeepsRoom, as_dict, insert_key}
use Rattle.starlark_dict.specs.Sort.{sorted, sorted_by_key}
use Rattle.starlark_vecmap.proofs.Views.{map-reverse}
use Rattle.starlark_dict.proofs.Moves.{map-sorted_by}

module _ {T : Type 0} where
  beside-keys : (es : List (T × Unit {0})) → map (λ x. (x, tt)) (keys_of es) ≡ es
  beside-keys [] = refl
  beside-keys (e ∷ es) = ap (λ l. e ∷ l) (beside-keys es)

  -- a dictionary to `()` is that of its keys
  pub as_dict-keys : (d : Dict T (Unit {0})) → as_dict (key_set d) ≡ d
  as_dict-keys d = ap (λ es. hash_map es (dict.memory d) (dict.room d)) (beside-keys d.entries)

  -- what holds of dictionaries to `()` holds of those of their keys
  pub as_dicts : (P : Dict T (Unit {0}) → Dict T (Unit {0}) → Type 0) (old new : Dict T (Unit {0})) → P old new → P (as_dict (key_set old)) (as_dict (key_set new))
  as_dicts P old new holds = subst (λ d. P d (as_dict (key_set new))) (sym (as_dict-keys old)) (subst (P old) (sym (as_dict-keys new)) holds)

  -- look-ups and removals, by the keys alone
  pub has-keys : (test : T → Bool) (es : List (T × Unit {0})) → list_any test (keys_of es) ≡ is_some (lookup test es)
  has-keys test es = sym (contains_seen es refl test)

  pub stored-keys : (test : T → Bool) (es : List (T × Unit {0})) → lookup_key test es ≡ find test (keys_of es)
  stored-keys test es = get_seen es refl test

  pub keys-removed : (test : T → Bool) (es : List (T × Unit {0})) → keys_of (remove_entry test es) ≡ remove_key test (keys_of es)
  keys-removed test es = removed_seen es refl (remove_entry test es) test refl

  pub keys-reversed : (es : List (T × Unit {0})) → keys_of (reverse es) ≡ reverse (keys_of es)
  keys-reversed es = map-reverse (λ p. p.0) es

  pub keys-inserted : (eq : T → T → Bool) (es : List (T × Unit {0})) (x : T) → keys_of (dict.insert_entry eq es x tt) ≡ insert_key eq (keys_of es) x
  keys-inserted eq [] x = refl
  keys-inserted eq (e ∷ es) x = grind (arith, common_steps, keys-inserted eq es x)

  pub keys-sorted : (cmp : T → T → Ordering) (es : List (T × Unit {0})) → keys_of (sorted_by_key cmp es) ≡ sorted cmp (keys_of es)
  keys-sorted cmp es = map-sorted_by (λ (p : T × Unit {0}). p.0) (λ d e. is_lt (cmp d.0 e.0)) (λ x y. is_lt (cmp x y)) (λ x y. refl) es

  -- there is a key where there is a pair
  pub is_some-alone : (r : Option (T × Unit {0})) → is_some (option_map (λ p. p.0) r) ≡ is_some r
  is_some-alone None = refl
  is_some-alone (Some p) = refl

  -- what follows of the key, where there is a pair
  pub if_alone : (r : Option (T × Unit {0})) (P : T × Unit {0} → Type 0) (Q : T → Type 0) → ((p : T × Unit {0}) → P p → Q p.0) → IfSome r P → IfSome (option_map (λ p. p.0) r) Q
  if_alone None P Q follows holds = tt
  if_alone (Some p) P Q follows holds = follows p holds

  pub length-keys : (es : List (T × Unit {0})) → length (keys_of es) ≡ length es
  length-keys es = length-map es (λ e. e.0)

  pub keeps_room : (old new : Dict T (Unit {0})) → dict.KeepsRoom old new → KeepsRoom (key_set old) (key_set new)
  keeps_room old new kept = omega (arith, kept, length-keys old.entries, length-keys new.entries)

  pub keeps_memory : (old new : Dict T (Unit {0})) → dict.KeepsMemory old new → KeepsMemory (key_set old) (key_set new)
  keeps_memory old new kept = (keeps_room old new kept.0, kept.1)

pub ruleset elements = (has-keys, stored-keys, keys-removed, keys-reversed, keys-inserted, keys-sorted, length-keys, is_some-alone)
