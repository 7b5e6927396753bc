-- What is found once an entry was removed at an index.
use Rattle.starlark_hash.proofs.Common.{◌≡◌, ℕ, Bool, List, remove, Option, Some, None, slice_get, refl, subst, sym, arith, IsEquivalence, option_map, same_Some, common_steps}
use Rattle.std.specs.Option.{IfNone}
use Rattle.std.proofs.lemmas.Option.{slice_get_cases}
use Rattle.starlark_hash.specs.declared.hashed.Hashed.{Hashed}
use Rattle.starlark_hash.specs.Entries.{Entry, IsSingle}
use Rattle.starlark_small.proofs.CallerRemove.{writes-taken}
use Rattle.starlark_hash.specs.Lookup.{Writes}

module _ {K V : Type 0} (eq : K → K → Bool) (laws : IsEquivalence eq) where
  an_entry : {Y : Type 0} (f : Entry K V → Y) (y : Y) (o : Option (Entry K V)) → Some y ≡ option_map f o → (e : Entry K V) × (o ≡ Some e) × (f e ≡ y)
  an_entry f y None at = cc
  an_entry f y (Some e) at = (e, refl, same_Some (f e) y (sym at))

  -- the key at an index, with its hash or alone
  pub writes-key : (old new : List (Entry K V)) (i : ℕ) (key : Hashed K) → IsSingle eq old → Some key ≡ option_map (λ e. e.0) (slice_get old i) → new ≡ remove old i
      → Writes eq (eq key.key) key.hash old new None
  writes-key old new i key single at is =
      let e = an_entry (λ e. e.0) key (slice_get old i) at in
      subst (λ (k : Hashed K). Writes eq (eq k.key) k.hash old new None) e.2 (writes-taken eq laws old new i e.0 single e.1 is)

-- a removal past the end takes nothing
pub stays-beyond : {X Y : Type 0} (f : X → Y) (xs ys : List X) (i : ℕ) (o : Option Y) → o ≡ option_map f (slice_get xs i) → ys ≡ remove xs i → IfNone o (ys ≡ xs)
stays-beyond f xs ys i o at is = grind (arith, common_steps, slice_get_cases)

pub ruleset removals = (writes-key, stays-beyond)
