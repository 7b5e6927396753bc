-- Look-ups, also under a supplied hash: what they find is one of the values of some pairs, and each of these values is
-- found.
use Rattle.starlark_hash.proofs.Common.{◌≡◌, Bool, true, List, [], ◌∷◌, Option, Some, None, refl, sym, ◌∙◌, nat_tests, ℕ, ◌<◌, length, slice_get, arith, IfSome, IsEquivalence, HashWrites, values_of, IsKeyTest, and_parts, slice_get-get_or, slice_get_within, get_or_from_slice_get}
use Rattle.std.specs.List.{IsAmong}
use Rattle.starlark_hash.specs.Hasher.{own_hash}
use Rattle.starlark_hash.specs.declared.hash_value.StarlarkHashValue.{StarlarkHashValue}
use Rattle.starlark_table.specs.Table.{Table}
use Rattle.starlark_unordered.specs.Lookup.{found}
use Rattle.starlark_unordered.specs.Pairs.{pairs_of, has_own_hash, under_own, HasDistinctKeys}
use Rattle.starlark_unordered.proofs.Callers.{among_found, at_some, only}
use Rattle.starlark_unordered.specs.Iter.{AreFound}
use Rattle.std.proofs.lemmas.Map.Made.{Contains-from_values_of}
use Rattle.std.proofs.lemmas.Map.Views.{IfSome-lookup_from_All}

module _ {K V : Type 0} (feeds : K → HashWrites) (hash : StarlarkHashValue) (t : K → Bool) (eq : K → K → Bool) (alike : (x y : K) → eq x y ≡ true → feeds x ≡ feeds y) (one : IsKeyTest eq t) where
  -- keys that pass are equal to each other, so that the hash may be tested at any of them
  found-passing : (key : K) → t key ≡ true → has_own_hash feeds hash key ≡ true → (ps : List (K × V)) → found (under_own feeds hash t) ps ≡ found t ps
  unfolding found
  found-passing key does own [] = refl
  found-passing key does own (p ∷ ps) = grind (arith, own, one key p.0 does, alike key p.0, found-passing key does own ps)

  found-under : (ps : List (K × V)) (v : V) → found (under_own feeds hash t) ps ≡ Some v → found t ps ≡ Some v
  found-under ps v at =
      let (k, does, there) = at_some (under_own feeds hash t) ps v at in
      let (own, passes) = and_parts (has_own_hash feeds hash k) (t k) does in sym (found-passing k passes own ps) ∙ at

  module _ (laws : IsEquivalence eq) (m : Table (K × V)) where
    pub own-under : (key : K) → hash ≡ own_hash feeds key → t ≡ eq key → found (eq key) (pairs_of m) ≡ found (under_own feeds hash t) (pairs_of m)
    own-under key is same = rw (← same) (sym (found-passing key (rw same (laws.refl key)) (grind (arith, nat_tests, is)) (pairs_of m)))

    -- what a look-up under a supplied hash finds, and what it says of a look-up without a hash
    pub record FindsUnder (r : Option V) : Type 0 where
      pub own : (same : K) → hash ≡ own_hash feeds same → t ≡ eq same → found (eq same) (pairs_of m) ≡ r
      pub found : IfSome r (λ value. found t (pairs_of m) ≡ Some value)
      pub member : IfSome r (λ value. IsAmong (values_of (pairs_of m)) value)

    pub finds-under : (r : Option V) → r ≡ found (under_own feeds hash t) (pairs_of m) → FindsUnder r
    finds-under None is = record { found = tt; member = tt; own = λ same own passes. own-under same own passes ∙ sym is }
    finds-under (Some v) is =
        let member = among_found (under_own feeds hash t) (pairs_of m) v (sym is) in
        record { found = found-under (pairs_of m) v (sym is); member = member; own = λ same own passes. own-under same own passes ∙ sym is }

module _ {K V : Type 0} (eq : K → K → Bool) (laws : IsEquivalence eq) (ps : List (K × V)) (distinct : HasDistinctKeys eq ps) where
  value-found : (i : ℕ) (o : Option V) → slice_get (values_of ps) i ≡ o → IfSome o (λ v. (key : K) × (found (eq key) ps ≡ Some v))
  unfolding found
  value-found i None at = tt
  value-found i (Some v) at = let (k, there) = Contains-from_values_of ps v (i, slice_get_within (values_of ps) i v at, get_or_from_slice_get (values_of ps) i v v at) in (k, only (eq k) ps k v (laws.refl k) (distinct k) there)

  -- if no two keys are equal, each of the values is found
  pub values-found : (values : List V) → values ≡ values_of ps → AreFound eq ps values
  unfolding found
  values-found values are =
      let Stands = λ (v : V). (index : ℕ) × (index < length (values_of ps)) × (slice_get (values_of ps) index ≡ Some v) in
      rw are (λ key. IfSome-lookup_from_All Stands (eq key) ps (λ k d below. (k, below, slice_get-get_or (values_of ps) k d below)), λ i. value-found i (slice_get (values_of ps) i) refl)
