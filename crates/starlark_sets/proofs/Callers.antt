-- What the clauses of sets say by look-ups: a refused element was lacking, and the key that is found passes.
use Rattle.starlark_hash.proofs.Common.{◌≡◌, ℕ, Bool, true, false, List, Option, Some, Result, OnErr, is_some, slice_get, refl, arith, IfSome, option_map, get_or_from_slice_get}
use Rattle.starlark_hash.specs.declared.hashed.Hashed.{Hashed}
use Rattle.starlark_hash.specs.declared.hash_value.StarlarkHashValue.{StarlarkHashValue}
use Rattle.starlark_hash.specs.HashValue.{hash_of, key_of}
use Rattle.starlark_hash.specs.Entries.{Entry, entry_at, entry_key, entry_value, position_of, stands_under}
use Rattle.starlark_hash.proofs.PositionLemmas.{position-passes}
use Rattle.starlark_small.proofs.CallerLookup.{is_some-found}
use Rattle.starlark_sets.specs.Insert.{Adds}
use Rattle.starlark_sets.specs.Set.{Set}
use Rattle.starlark_hash.specs.Lookup.{found, found_key}

module _ {T A E : Type 0} (eq : T → T → Bool) (old new : Set T) (element : Hashed T) where
  pub absent-added : (r : Result A E) → Adds eq old new element r → OnErr r (is_some (found (eq (key_of element)) (hash_of element) old.entries) ≡ false)
  absent-added r h = rw (← is_some-found (eq (key_of element)) (hash_of element) old.entries) (grind arith)

-- the key that is found passes
module _ {K V : Type 0} (test : K → Bool) (hash : StarlarkHashValue) where
  key_passes : (es : List (Entry K V)) (i : ℕ) (e : Entry K V) → position_of hash test es ≡ Some i → slice_get es i ≡ Some e → test (entry_key e) ≡ true
  key_passes es i e at is = grind (arith, position-passes (stands_under hash test) es i e at, get_or_from_slice_get es i e e is)

  stands_so : (es : List (Entry K V)) (o : Option ℕ) (e : Option (Entry K V)) → position_of hash test es ≡ o → entry_at es o ≡ e
      → (is_some (option_map entry_key e) ≡ is_some (option_map entry_value e)) × IfSome (option_map entry_key e) (λ k. test k ≡ true)
  stands_so es o e at is = grind (arith, key_passes es)

  pub key_stands : (es : List (Entry K V)) (o : Option K) → o ≡ option_map entry_key (entry_at es (position_of hash test es)) → (o ≡ found_key test hash es) × (is_some o ≡ is_some (found test hash es)) × IfSome o (λ k. test k ≡ true)
  unfolding found found_key
  key_stands es o is = let s = stands_so es (position_of hash test es) _ refl refl in rw is (refl, s.0, s.1)

  -- whether there is a stored key, and that it passes
  pub is_some-found_key : (es : List (Entry K V)) (o : Option K) → o ≡ found_key test hash es → is_some o ≡ is_some (found test hash es)
  unfolding found_key
  is_some-found_key es o is = (key_stands es o is).1

  pub passes-found_key : (es : List (Entry K V)) (o : Option K) → o ≡ found_key test hash es → IfSome o (λ k. test k ≡ true)
  unfolding found_key
  passes-found_key es o is = (key_stands es o is).2

pub ruleset lookups = (is_some-found_key, passes-found_key)
