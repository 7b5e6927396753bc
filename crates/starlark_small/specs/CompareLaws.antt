-- Why `same_entries` is symmetric and transitive where the equality of values is, and an equivalence where that is one.
use Rattle.std.proofs.Common.{◌≡◌, Bool, true, ◌&&◌, List, [], ◌∷◌, length, refl, sym, subst, ◌∙◌, arith, nat_eq}
use Rattle.std.proofs.lemmas.Grind.{common_steps}
use Rattle.std.proofs.lemmas.List.Folds.{list_all-map}
use Rattle.std.specs.List.{list_all}
use Rattle.std.specs.Option.{option_eq}
use Rattle.core.specs.Cmp.{IsEquivalence, IsPartialEquivalence, equiv, partial_equiv_from_equiv, nat_eq_equiv, and_equiv, and_per, back_equiv, on_equiv, on_per, first_so, second_so}
use Rattle.std_collections.specs.Layout.HashMap.{HashMap, hash_map}
use Rattle.std_collections.specs.Map.{keys_of, lookup, lookup_entry}
use Rattle.std_collections.specs.HashMap.{entries_eq, hash_map_eq}
use Rattle.std_collections.specs.HashMap.Eq.{hash_map_eq_symm, hash_map_eq_trans, hash_map_eq_refl}
use Rattle.starlark_hash.specs.declared.hashed.Hashed.{Hashed}
use Rattle.starlark_hash.specs.HashValue.{hash_number, hash_of, key_of}
use Rattle.starlark_hash.specs.Entries.{Entry, entry_at, value_at, match_of}
use Rattle.starlark_hash.proofs.PositionLemmas.{position-cons}
use Rattle.starlark_small.specs.Compare.{agree_at, same_entries}
use Rattle.starlark_small.specs.Map.{Map}

module _ {K : Type 0} (eq : K → K → Bool) where
  -- whether two keys are alike under their hashes
  abbrev pub alike : Hashed K → Hashed K → Bool
  alike q x = nat_eq (hash_number (hash_of x)) (hash_number (hash_of q)) && eq (key_of q) (key_of x)

  pub alike-laws : IsEquivalence eq → IsEquivalence alike
  alike-laws o = and_equiv (back_equiv (on_equiv (λ h. hash_number (hash_of h)) nat_eq_equiv)) (on_equiv key_of o)

module _ {K V : Type 0} (eq : K → K → Bool) where
  -- the entry that a look-up finds is that of a recursive search
  entry_at-lookup : (es : List (Entry K V)) (q : Hashed K) → entry_at es (match_of eq es q) ≡ lookup_entry (alike eq q) es
  entry_at-lookup [] q = refl
  entry_at-lookup (e ∷ es) q = grind (arith, common_steps, position-cons, entry_at-lookup es q)

  pub value_at-lookup : (es : List (Entry K V)) (q : Hashed K) → value_at es (match_of eq es q) ≡ lookup (alike eq q) es
  value_at-lookup [] q = refl
  value_at-lookup (e ∷ es) q = grind (arith, common_steps, position-cons, value_at-lookup es q)

-- the list as a map under keys with their hashes
abbrev pub as_map : {K V : Type 0} → List (Entry K V) → HashMap (Hashed K) V (Unit {0})
as_map es = hash_map es tt 0

module _ {K V : Type 0} (eq : K → K → Bool) (E : V → V → Bool) where
  agree-entries : (ds es : List (Entry K V)) (q : Hashed K) → agree_at eq E ds es q ≡ option_eq (λ d e. E d.1 e.1) (lookup_entry (alike eq q) ds) (lookup_entry (alike eq q) es)
  agree-entries ds es q = grind (arith, common_steps, entry_at-lookup eq ds q, entry_at-lookup eq es q)

  -- `same_entries` is std's equality of maps, and equal lengths
  pub same_entries-maps : (ds es : List (Entry K V)) → same_entries eq E ds es ≡ (nat_eq (length ds) (length es) && hash_map_eq (alike eq) E (as_map ds) (as_map es))
  unfolding entries_eq
  same_entries-maps ds es =
      let agree : Hashed K → Bool = λ q. option_eq (λ d e. E d.1 e.1) (lookup_entry (alike eq q) ds) (lookup_entry (alike eq q) es) in
      let each : (xs : List (Entry K V)) → list_all (λ x. agree_at eq E ds es x.0) xs ≡ list_all agree (keys_of xs) = λ xs. (λ i. list_all (λ x. agree-entries ds es x.0 i) xs) ∙ sym (list_all-map agree (λ x. x.0) xs) in
      λ i. nat_eq (length ds) (length es) && (each ds i && each es i)

  -- lists with the same entries are equal as finite maps
  pub as_maps : (ds es : List (Entry K V)) → same_entries eq E ds es ≡ true → hash_map_eq (alike eq) E (as_map ds) (as_map es) ≡ true
  as_maps ds es same = second_so (nat_eq (length ds) (length es)) _ (sym (same_entries-maps ds es) ∙ same)

  -- lists with the same entries are equally long
  pub as_long : (ds es : List (Entry K V)) → same_entries eq E ds es ≡ true → nat_eq (length ds) (length es) ≡ true
  as_long ds es same = first_so (nat_eq (length ds) (length es)) _ same

  -- lists that are equally long, and equal as finite maps, have the same entries
  pub both : (ds es : List (Entry K V)) → nat_eq (length ds) (length es) ≡ true → hash_map_eq (alike eq) E (as_map ds) (as_map es) ≡ true → same_entries eq E ds es ≡ true
  both ds es long same = same_entries-maps ds es ∙ (λ i. long i && same i)

  -- `==` of maps is symmetric and transitive where that of values is
  pub same_entries_laws : IsEquivalence eq → IsPartialEquivalence E → IsPartialEquivalence {K = Map K V} (λ m n. same_entries eq E m.entries n.entries)
  same_entries_laws o e =
      subst IsPartialEquivalence (λ i m n. sym (same_entries-maps m.entries n.entries) i)
      (and_per (on_per (λ m. length m.entries) (partial_equiv_from_equiv nat_eq_equiv))
      (on_per (λ m. as_map m.entries) (record { symm = hash_map_eq_symm (alike eq) E e.symm; trans = hash_map_eq_trans (alike eq) E (alike-laws eq o) e.trans })))

  -- `==` of maps is an equivalence, so reflexive too, where that of values is
  pub same_entries_equivalence : IsEquivalence eq → IsEquivalence E → IsEquivalence {K = Map K V} (λ m n. same_entries eq E m.entries n.entries)
  same_entries_equivalence o e =
      equiv (same_entries_laws o (partial_equiv_from_equiv e))
      (λ m. both m.entries m.entries (nat_eq_equiv.refl (length m.entries)) (hash_map_eq_refl (alike eq) E e.refl (as_map m.entries)))
