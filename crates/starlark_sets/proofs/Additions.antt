-- An insertion of an element that is there changes nothing.
use Rattle.starlark_hash.proofs.Common.{◌≡◌, ℕ, zero, suc, Bool, true, [], ◌∷◌, ◌++◌, Some, None, is_some, option_map_or, refl, ap, ◌∙◌, false≢true}
use Rattle.starlark_hash.specs.declared.hashed.Hashed.{Hashed}
use Rattle.starlark_hash.specs.HashValue.{hash_of, key_of}
use Rattle.starlark_hash.specs.Entries.{match_of, set_value_at}
use Rattle.starlark_hash.specs.Insert.{insert_entry}
use Rattle.starlark_hash.specs.Lookup.{found}
use Rattle.starlark_small.specs.Insert.{LeavesMemory}
use Rattle.starlark_small.proofs.CallerLookup.{is_some-found}
use Rattle.starlark_sets.specs.Set.{Set, Elements}

module _ {T : Type 0} where
  -- `()` in the place of `()` changes nothing
  pub set_unit_at : (es : Elements T) (i : ℕ) → set_value_at es i tt ≡ es
  set_unit_at [] i = refl
  set_unit_at (e ∷ es) zero = refl
  set_unit_at (e ∷ es) (suc i) = ap (λ tail. e ∷ tail) (set_unit_at es i)

  -- an element that is there changes nothing
  pub same-there : (eq : T → T → Bool) (old new : Set T) (element : Hashed T) → new.entries ≡ insert_entry eq old.entries element tt → LeavesMemory eq old new element
      → is_some (found (eq (key_of element)) (hash_of element) old.entries) ≡ true → new ≡ old
  same-there eq old new element put left there =
      let at : is_some (match_of eq old.entries element) ≡ true = is_some-found (eq (key_of element)) (hash_of element) old.entries ∙ there in
      let same : new.entries ≡ old.entries = put ∙ (elim (match_of eq old.entries element) as (λ o. is_some o ≡ true → option_map_or (λ i. set_value_at old.entries i tt) o (old.entries ++ (element, tt) ∷ []) ≡ old.entries) [
        | None ↦ λ none. absurd (false≢true none)
        | Some i ↦ λ _. set_unit_at old.entries i
      ]) at in
      left.replaced there ∙ ap (λ es. record old { entries = es }) same

pub ruleset additions = (same-there)
