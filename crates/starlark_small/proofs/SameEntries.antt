-- The equality of lists of entries with no regard to order, by one look-up for each entry of one.
use Rattle.starlark_hash.proofs.Common.{◌≡◌, ℕ, ◌<◌, Bool, true, false, List, length, get_or, Option, Some, sym, ◌∙◌, arith, eq-eqb, slice_get, get_or-map, length-map, option_eq, false≢true, slice_get_within}
use Rattle.std.specs.List.{IsDistinct}
use Rattle.std.proofs.lemmas.Bool.{false_from_ne_true}
use Rattle.std.proofs.lemmas.Map.Keys.{IsDistinct-from_apart}
use Rattle.core.specs.Cmp.{IsEquivalence}
use Rattle.std_collections.specs.Map.{keys_of, lookup}
use Rattle.std_collections.specs.HashMap.Eq.{get_from_hash_map_eq}
use Rattle.std_collections.proofs.HashMapEq.{key_at, own_value, equal_by_keys}
use Rattle.starlark_hash.specs.declared.hashed.Hashed.{Hashed}
use Rattle.starlark_hash.specs.Entries.{Entry, IsSingle, value_at, match_of}
use Rattle.starlark_hash.specs.HashValue.{hash_of, key_of}
use Rattle.starlark_hash.specs.Lookup.{found}
use Rattle.starlark_small.specs.Along.{an-item}
use Rattle.starlark_small.specs.Compare.{agree_at, same_entries}
use Rattle.starlark_small.proofs.CallerLookup.{found-value_at}
use Rattle.starlark_small.specs.CompareLaws.{alike, alike-laws, value_at-lookup, as_map, as_maps, both}

module _ {K V : Type 0} (eq : K → K → Bool) where
  pub distinct : (es : List (Entry K V)) → IsSingle eq es → IsDistinct (alike eq) (keys_of es)
  distinct es single = IsDistinct-from_apart (alike eq) (keys_of es) (λ i j d before below.
      let inside : j < length es = omega (arith, below, length-map es (λ x. x.0)) in
      let e = an-item es j inside in
      rw (get_or-map (λ x. x.0) es i e d (omega arith), get_or-map (λ x. x.0) es j e d inside) (single i j e before inside))

  -- the index of an entry is where its own key is found
  pub own_match : IsEquivalence eq → (es : List (Entry K V)) (i : ℕ) (e : Entry K V) → slice_get es i ≡ Some e → IsSingle eq es → i < length es
      → value_at es (match_of eq es e.0) ≡ Some e.1
  own_match o es i e at single below = value_at-lookup eq es e.0 ∙ own_value (alike eq) (alike-laws eq o) es i e.0 e.1 at (distinct es single) below

  pub own_key : IsEquivalence eq → (es : List (Entry K V)) (i : ℕ) (e : Entry K V) → slice_get es i ≡ Some e → (d : Hashed K) → get_or (keys_of es) i d ≡ e.0
  own_key o es i e at d = key_at (alike eq) (alike-laws eq o) es i e.0 e.1 at d

module _ {K V : Type 0} (eq : K → K → Bool) (E : V → V → Bool) where
  agree-values : (ds es : List (Entry K V)) (q : Hashed K) → agree_at eq E ds es q ≡ option_eq E (lookup (alike eq q) ds) (lookup (alike eq q) es)
  agree-values ds es q = λ i. option_eq E (value_at-lookup eq ds q i) (value_at-lookup eq es q i)

  -- the two lists agree at the key of an entry of `ds` exactly if its value equals what `es` finds at that key
  pub agree-found : IsEquivalence eq → (ds es : List (Entry K V)) (i : ℕ) (e : Entry K V) → slice_get ds i ≡ Some e → IsSingle eq ds → (other : Option V) (agree answer : Bool)
      → other ≡ found (eq (key_of e.0)) (hash_of e.0) es → agree ≡ option_eq E (Some e.1) other → agree ≡ answer → agree_at eq E ds es e.0 ≡ answer
  agree-found o ds es i e at single other agree answer theirs is answers =
      (λ j. option_eq E (own_match eq o ds i e at single (slice_get_within ds i e at) j) (sym (theirs ∙ found-value_at (eq (key_of e.0)) (hash_of e.0) es) j)) ∙ sym is ∙ answers

  pub unequal_at : IsEquivalence eq → (ds es : List (Entry K V)) (q : Hashed K) → agree_at eq E ds es q ≡ false → false ≡ same_entries eq E ds es
  unequal_at o ds es q differ =
      sym (false_from_ne_true _ (λ same. false≢true (sym differ ∙ agree-values ds es q ∙ get_from_hash_map_eq (alike eq) E (alike-laws eq o) (as_map ds) (as_map es) (as_maps eq E ds es same) q)))

  pub equal_by_keys_of : IsEquivalence eq → (ds es : List (Entry K V)) → IsSingle eq ds → IsSingle eq es → length ds ≡ length es
      → ((k : ℕ) → k < length ds → (d : Hashed K) → agree_at eq E ds es (get_or (keys_of ds) k d) ≡ true) → true ≡ same_entries eq E ds es
  equal_by_keys_of o ds es left right long agree =
      sym (both eq E ds es (eq-eqb (length ds) (length es) long) (sym (equal_by_keys (alike eq) (alike-laws eq o) E (as_map ds) (as_map es) (distinct eq ds left) (distinct eq es right) long
      (λ k below d. sym (agree-values ds es (get_or (keys_of ds) k d)) ∙ agree k below d))))
