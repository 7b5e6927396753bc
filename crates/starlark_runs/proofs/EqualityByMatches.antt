-- The equality of lists of entries, expressed by the matches of each entry.
use Rattle.starlark_hash.proofs.Common.{◌≡◌, Bool, true, false, List, length, get_or, Option, Some, sym, subst, ◌∙◌, inl, inr, arith, IsTrue, option_eq, nat_tests, common_steps, eqb-true, false≢true, slice_get-get_or}
use Rattle.std.proofs.Common.{◌↔◌}
use Rattle.std.specs.Prelude.{IsSomeAnd}
use Rattle.std.proofs.lemmas.Option.{slice_get_cases}
use Rattle.core.specs.Cmp.{IsEquivalence}
use Rattle.starlark_hash.specs.Entries.{Entry, IsSingle, match_of, value_at}
use Rattle.starlark_small.specs.Compare.{agree_at, same_entries}
use Rattle.starlark_small.specs.CompareLaws.{as_long}
use Rattle.starlark_small.proofs.SameEntries.{own_match, own_key, unequal_at, equal_by_keys_of}
use Rattle.starlark_runs.specs.Matches.{HasMatch, HasMatches}

-- a value is equal to the optional one exactly if the test says so
shown_iff : {V : Type 0} (E : V → V → Bool) (x : V) (o : Option V) → (option_eq E (Some x) o ≡ true) ↔ IsSomeAnd o (λ value. IsTrue (E x value))
shown_iff E x o = grind (arith, common_steps)

not_false : (b : Bool) → (b ≡ false → ⊥) → b ≡ true
not_false b f = grind (arith, nat_tests)

module _ {K V : Type 0} (eq : K → K → Bool) (E : V → V → Bool) (o : IsEquivalence eq) (ds es : List (Entry K V)) (left : IsSingle eq ds) (right : IsSingle eq es) where
  matches_of_equal : same_entries eq E ds es ≡ true → HasMatches eq E ds es
  matches_of_equal same = (
    eqb-true (length ds) (length es) (as_long eq E ds es same),
    λ k d below.
        let e : Entry K V = get_or ds k d in
        let mine = own_match eq o ds k e (slice_get-get_or ds k d below) left below in
        let agree : agree_at eq E ds es e.0 ≡ true = not_false _ (λ differ. false≢true (unequal_at eq E o ds es e.0 differ ∙ same)) in
        (shown_iff E e.1 (value_at es (match_of eq es e.0))).0 (cc),
  )

  equal_of_matches : HasMatches eq E ds es → same_entries eq E ds es ≡ true
  equal_of_matches found =
      sym (equal_by_keys_of eq E o ds es left right found.0 (λ k below d. elim (slice_get_cases ds k).1 [
        | inl there ↦
            let e = there.0 in
            let shown : HasMatch eq E es e = subst (λ x. HasMatch eq E es x) there.3 (found.1 k e below) in
            cc (own_key eq o ds k e there.2 d, own_match eq o ds k e there.2 left below, (shown_iff E e.1 (value_at es (match_of eq es e.0))).1 shown)
        | inr past ↦ absurd (omega (arith, past.0, below))
      ]))

  pub equal_iff_matches : IsTrue (same_entries eq E ds es) ↔ HasMatches eq E ds es
  equal_iff_matches = (matches_of_equal, equal_of_matches)
