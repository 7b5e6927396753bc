-- A dictionary after an iteration that writes its values.
use Rattle.starlark_hash.proofs.Common.{◌≡◌, ◌∙◌, Bool, List, [], ◌∷◌, ap, is_some, map, refl, sym, values_of}
use Rattle.std_collections.specs.Layout.Columns.{set_values}
use Rattle.std_collections.specs.Layout.HashMap.{hash_map}
use Rattle.std_collections.proofs.Zip.{keys_set_values, length-set_values}
use Rattle.std.specs.List.{list_any}
use Rattle.std.proofs.lemmas.Map.Made.{is_some-lookup}
use Rattle.std.specs.HashMap.Lent.{KeepsKeys}
use Rattle.std_collections.specs.Layout.HashMapValues.{with_values}
use Rattle.starlark_hash.specs.Entries.{Entry, pair_of}
use Rattle.starlark_small.specs.Map.{Map}
use Rattle.starlark_vecmap.specs.EntryList as list
use Rattle.starlark_dict.specs.Dict.{Dict, dict_of, get, values}

module _ {K V : Type 0} where
  written-again : (es ws : List (Entry K V)) → set_values (map pair_of es) (values_of (map pair_of (list.with_values es ws))) ≡ map pair_of (list.with_values es ws)
  written-again [] ws = refl
  written-again (e ∷ es) [] = ap (λ l. pair_of e ∷ l) (written-again es [])
  written-again (e ∷ es) (w ∷ ws) = ap (λ l. ((pair_of e).0, w.1) ∷ l) (written-again es ws)

  -- what the iteration leaves in the small map inside, it leaves in the pairs
  pub with_values-again : (m : Map K V) (ws : List (Entry K V)) → with_values (dict_of m) (values (dict_of (record m { entries = list.with_values m.entries ws }))) ≡ dict_of (record m { entries = list.with_values m.entries ws })
  unfolding with_values
  with_values-again m ws = ap (λ es. hash_map es (record { capacity = m.capacity; indexed = m.indexed }) m.room) (written-again m.entries ws)

  -- whatever values are written, keys stay
  pub keeps-keys : (d : Dict K V) → KeepsKeys d
  unfolding with_values
  keeps-keys d = (keys_set_values d.entries, length-set_values d.entries)

  pub keeps-members : (eq : K → K → Bool) (d : Dict K V) (ws : List V) (key : K) → is_some (get eq (with_values d ws) key) ≡ is_some (get eq d key)
  unfolding with_values
  keeps-members eq d ws key =
      let is_there = is_some-lookup (eq key) in
      is_there (set_values d.entries ws) ∙ ap (list_any (eq key)) (keys_set_values d.entries ws) ∙ sym (is_there d.entries)
