-- Members whose keys ascend: each key is new when it is inserted, so that the entries are the members in their order.
use Rattle.starlark_hash.proofs.Common.{◌≡◌, ℤ, false, List, [], ◌∷◌, map, Option, Some, None, MatchOption, string_bytes, refl, sym, ap, subst, ◌∙◌, arith, common_steps, bytes_eq-Decides, get_or, get_or-map, length-map, AllByRecursion, keys_of, option_map, ⊤, Global}
use Rattle.std.proofs.Common.{String, string_cmp, bytes_eq, Less}
use Rattle.core.specs.Cmp.{decided}
use Rattle.std.proofs.lemmas.Map.Keys.{Less-from_sorted}
use Rattle.std.proofs.lemmas.Simd.{map-map}
use Rattle.std.proofs.lemmas.Map.Text.{is_eq-slice_cmp}
use Rattle.std.specs.List.Sorted.{IsStrictlySortedBy}
use Rattle.serde_json.specs.View.{members_view}
use Rattle.serde_json.specs.declared.value.Value.{Value}
use Rattle.starlark_hash.specs.Entries.{Entry, IsSingle, entry_key}
use Rattle.starlark_runs.proofs.EntryCollection.{insert_all-single}
use Rattle.starlark_small.specs.Collect.{insert_all}
use Rattle.starlark_map.specs.JsonObjects.{IntegerEntries, entries_of_members}
use Rattle.starlark_map.specs.JsonTexts.{Text, text_cmp, text_entries, texts_of, text_entry}

abbrev Ascend : List Text → Type 0
Ascend texts = IsStrictlySortedBy text_cmp texts

abbrev keys : IntegerEntries → List Text
keys es = map entry_key es

-- if keys ascend, no two entries match
single : (es : IntegerEntries) → Ascend (keys es) → IsSingle bytes_eq es
single es up i j d below inside =
    let x = entry_key (get_or es i d) in let y = entry_key (get_or es j d) in
    let less = Less-from_sorted text_cmp (keys es) i j (entry_key d) up below (omega (arith, length-map es entry_key, inside)) in
    let apart : bytes_eq x y ≡ false = cc (is_eq-slice_cmp x y, get_or-map entry_key es i d (entry_key d) (omega (arith, below, inside)), get_or-map entry_key es j d (entry_key d) inside, less) in
    grind (arith, common_steps, apart)

-- the entries, if there are any, have these keys
abbrev HaveKeys : List Text → Option IntegerEntries → Type 0
HaveKeys texts o = MatchOption o ⊤ (λ es. keys es ≡ texts)

-- the keys of the entries are those of the members
entries_of_members-keys : (ms : List (String Global × Value)) → HaveKeys (map string_bytes (keys_of ms)) (entries_of_members (members_view ms))
entries_of_members-keys [] = refl
entries_of_members-keys (m ∷ ms) = grind (arith, common_steps, entries_of_members-keys ms)

texts_above : (first : String Global) (ks : List (String Global)) → AllByRecursion (λ k. string_cmp first k ≡ Less) ks → AllByRecursion (λ k. text_cmp (string_bytes first) k ≡ Less) (map string_bytes ks)
texts_above first [] below = tt
texts_above first (k ∷ ks) below = (below.0, texts_above first ks below.1)

texts_ascend : (ks : List (String Global)) → IsStrictlySortedBy string_cmp ks → Ascend (map string_bytes ks)
unfolding IsStrictlySortedBy
texts_ascend [] up = tt
texts_ascend (k ∷ ks) up = (texts_above k ks up.0, texts_ascend ks up.1)

inserted_anew : (o : Option IntegerEntries) (texts : List Text) → HaveKeys texts o → Ascend texts → option_map (insert_all bytes_eq []) o ≡ o
inserted_anew None texts have up = refl
inserted_anew (Some es) texts have up = ap Some (insert_all-single bytes_eq (decided bytes_eq bytes_eq-Decides) [] es (single es (subst Ascend (sym have) up)))

module _ (ms : List (String Global × Value)) (es : List (Entry (String Global) ℤ)) (up : IsStrictlySortedBy string_cmp (keys_of ms)) (made : Some (text_entries es) ≡ option_map (insert_all bytes_eq []) (entries_of_members (members_view ms))) where
  -- inserting the members gave the members themselves
  pub made_of_members : entries_of_members (members_view ms) ≡ Some (text_entries es)
  made_of_members = sym (made ∙ inserted_anew (entries_of_members (members_view ms)) (map string_bytes (keys_of ms)) (entries_of_members-keys ms) (texts_ascend (keys_of ms) up))

  -- the keys of what was made ascend
  pub made_ascends : Ascend (texts_of es)
  made_ascends = subst Ascend (sym (subst (HaveKeys (map string_bytes (keys_of ms))) made_of_members (entries_of_members-keys ms)) ∙ map-map entry_key text_entry es) (texts_ascend (keys_of ms) up)
