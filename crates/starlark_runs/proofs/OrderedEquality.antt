-- Lists of entries that are equal item by item.
use Rattle.starlark_hash.proofs.Common.{◌≡◌, ℕ, Bool, true, List, [], ◌∷◌, length, get_or, refl, arith, nat_eq, option_eq, eqb-true, nat_tests}
use Rattle.core.specs.Cmp.{IsEquivalence, nat_eq_equiv}
use Rattle.std.specs.Cmp.Derive.{both_true}
use Rattle.std.proofs.lemmas.List.Sums.{list_all-from_AllPass}
use Rattle.std_collections.specs.Map.{lookup}
use Rattle.starlark_hash.specs.declared.hashed.Hashed.{Hashed}
use Rattle.starlark_hash.specs.Entries.{Entry}
use Rattle.starlark_small.specs.Compare.{agree_at, same_entries}
use Rattle.starlark_small.specs.CompareLaws.{alike, value_at-lookup}
use Rattle.starlark_hash.specs.Compare.{same_ordered, ordered_feed}

module _ {K V : Type 0} (eq : K → K → Bool) (E : V → V → Bool) where
  -- the first entries have one hash, equal keys and equal values, and the rest of both lists is equal item by item
  parts_same : (d e : Entry K V) (ds es : List (Entry K V)) → same_ordered eq E (d ∷ ds) (e ∷ es) ≡ true
      → (nat_eq d.0.hash.0 e.0.hash.0 ≡ true) × (eq d.0.key e.0.key ≡ true) × (E d.1 e.1 ≡ true) × (same_ordered eq E ds es ≡ true)
  parts_same d e ds es same = (grind (arith, nat_tests), grind (arith, nat_tests), grind (arith, nat_tests), grind (arith, nat_tests))

  -- lists that are equal item by item have one length
  same_ordered-length : (ds es : List (Entry K V)) → same_ordered eq E ds es ≡ true → nat_eq (length ds) (length es) ≡ true
  same_ordered-length [] [] same = refl
  same_ordered-length (d ∷ ds) (e ∷ es) same = grind (arith, nat_tests, same_ordered-length ds es (parts_same d e ds es same).3)
  same_ordered-length ds es same = cc

  -- a key under a hash is found in both lists, or in neither
  alike_both : IsEquivalence eq → (d e : Entry K V) → nat_eq d.0.hash.0 e.0.hash.0 ≡ true → eq d.0.key e.0.key ≡ true → (q : Hashed K) → alike eq q d.0 ≡ alike eq q e.0
  alike_both o d e hashes keys q =
      cc (o.symm q.key d.0.key, o.congr d.0.key e.0.key q.key keys, o.symm e.0.key q.key, nat_eq_equiv.congr d.0.hash.0 e.0.hash.0 q.hash.0 hashes)

  lookups_agree : IsEquivalence eq → (ds es : List (Entry K V)) → same_ordered eq E ds es ≡ true → (q : Hashed K) → option_eq E (lookup (alike eq q) ds) (lookup (alike eq q) es) ≡ true
  lookups_agree o [] [] same q = refl
  lookups_agree o (d ∷ ds) (e ∷ es) same q =
      let parts = parts_same d e ds es same in
      grind (arith, nat_tests, parts.2, alike_both o d e parts.0 parts.1 q, lookups_agree o ds es parts.3 q)
  lookups_agree o ds es same q = cc

  agree : IsEquivalence eq → (ds es : List (Entry K V)) → same_ordered eq E ds es ≡ true → (q : Hashed K) → agree_at eq E ds es q ≡ true
  agree o ds es same q = cc (value_at-lookup eq ds q, value_at-lookup eq es q, lookups_agree o ds es same q)

  -- lists that are equal item by item have the same entries
  pub same_entries-same_ordered : IsEquivalence eq → (ds es : List (Entry K V)) → same_ordered eq E ds es ≡ true → same_entries eq E ds es ≡ true
  same_entries-same_ordered o ds es same =
      let each = agree o ds es same in
      both_true (same_ordered-length ds es same) (both_true (list_all-from_AllPass (λ d. agree_at eq E ds es d.0) ds (λ k d inside. each (get_or ds k d).0)) (list_all-from_AllPass (λ e. agree_at eq E ds es e.0) es (λ k e inside. each (get_or es k e).0)))

  -- if equal values feed a hasher alike, lists that are equal item by item do too
  pub ordered_feed-same_ordered : (feed : V → List (List ℕ)) → ((v w : V) → E v w ≡ true → feed v ≡ feed w)
      → (ds es : List (Entry K V)) → same_ordered eq E ds es ≡ true → ordered_feed feed ds ≡ ordered_feed feed es
  ordered_feed-same_ordered feed respects [] [] same = refl
  ordered_feed-same_ordered feed respects (d ∷ ds) (e ∷ es) same =
      let parts = parts_same d e ds es same in
      cc (eqb-true d.0.hash.0 e.0.hash.0 parts.0, respects d.1 e.1 parts.2, ordered_feed-same_ordered feed respects ds es parts.3)
  ordered_feed-same_ordered feed respects ds es same = cc
