-- Entries that are inserted one after the other into a list, where none matches an earlier one.
use Rattle.starlark_hash.proofs.Common.{◌≡◌, ◌+◌, Bool, false, List, [], ◌∷◌, ◌++◌, length, get_or, map, Drains, None, sym, ap, ◌∙◌, arith, option_map_or, append-nil, append_assoc, get_or_append_left, length-append}
use Rattle.core.specs.Cmp.{IsEquivalence}
use Rattle.std.specs.Map.Iter.{TakesFirst}
use Rattle.std.proofs.lemmas.Iterator.{items_from_drains}
use Rattle.std.proofs.lemmas.Iterator.Consumers.{YieldsList-from_rest}
use Rattle.std.proofs.lemmas.List.{get_or-append-add}
use Rattle.starlark_hash.specs.Entries.{Entry, stands_under, set_value_at, match_of, IsSingle}
use Rattle.starlark_small.proofs.CallerLookup.{none_among}
use Rattle.starlark_small.specs.Collect.{insert_all}
use Rattle.starlark_small.specs.CompareLaws.{alike, alike-laws}

module _ {K V : Type 0} (eq : K → K → Bool) (laws : IsEquivalence eq) where
  -- an entry has no match among those before it
  match_of-before : (es xs : List (Entry K V)) (x : Entry K V) → IsSingle eq (es ++ x ∷ xs) → match_of eq es x.0 ≡ None
  match_of-before es xs x single = none_among (stands_under x.0.hash (eq x.0.key)) es (λ k d below.
      let all = es ++ x ∷ xs in
      let apart : alike eq (get_or all k d).0 (get_or all (length es + 0) d).0 ≡ false =
      single k (length es + 0) d (omega (arith, below)) (omega (arith, length-append es (x ∷ xs))) in
      cc ((alike-laws eq laws).symm x.0 (get_or es k d).0, get_or_append_left es (x ∷ xs) d k below, get_or-append-add es (x ∷ xs) 0 d))

  -- inserting entries, of which no two match, one after the other gives their list
  pub insert_all-single : (es xs : List (Entry K V)) → IsSingle eq (es ++ xs) → insert_all eq es xs ≡ es ++ xs
  insert_all-single es [] single = sym (append-nil es)
  insert_all-single es (x ∷ xs) single =
      ap (λ o. insert_all eq (option_map_or (λ i. set_value_at es i x.1) o (es ++ x ∷ [])) xs) (match_of-before es xs x single)
      ∙ insert_all-single (es ++ x ∷ []) xs (rw append_assoc single)
      ∙ append_assoc es (x ∷ []) xs

  -- inserting them gives the list too when they come from an iterator over the list
  pub walked-single : {X : Type 0} (shows : X → Entry K V) {walk : List (Entry K V)} (es fs : List (Entry K V)) (items : List X) → Drains (TakesFirst shows) walk items → walk ≡ es
      → fs ≡ insert_all eq [] (map shows items) → IsSingle eq es → fs ≡ es
  walked-single shows es fs items drained is made single =
      let (t, (u, gave, end)) = drained in
      made ∙ ap (insert_all eq []) (items_from_drains items (u, gave, λ _. (t, end)) (YieldsList-from_rest es is)) ∙ insert_all-single [] es single
