-- A dictionary that is made again pair by pair, from pairs of which no two have equal keys: each key is new, so it is appended.
use Rattle.starlark_hash.proofs.Common.{◌≡◌, ◌∙◌, ◌++◌, ◌∷◌, Bool, IsEquivalence, List, None, Some, [], ap, arith, cond, drop, false, get_or, length, lookup, map, refl, sym}
use Rattle.std.specs.List.{AllByRecursion, IsDistinct}
use Rattle.std.proofs.lemmas.Map.{none_passes_from_lookup}
use Rattle.std.proofs.lemmas.Map.Keys.{IsDistinct-head, IsDistinct-tail}
use Rattle.std_collections.proofs.HashLookup.{IsAbsent}
use Rattle.starlark_dict.specs.Dict.{insert_entry}
use Rattle.starlark_dict.proofs.Changes.{insert_entry-absent}

module _ {K V : Type 0} (eq : K → K → Bool) (k : K) (v : V) where
  pub absent : (es : List (K × V)) → AllByRecursion (λ p. eq k p.0 ≡ false) es → IsAbsent (eq k) es
  absent [] h = h
  absent (e ∷ es) h = (h.0, absent es h.1)

  -- an insertion at a key that is not there
  pub inserted-new : (es fs : List (K × V)) → fs ≡ insert_entry eq es k v → lookup (eq k) es ≡ None → fs ≡ es ++ (k, v) ∷ []
  inserted-new es fs put none = put ∙ insert_entry-absent eq k v es (absent es (none_passes_from_lookup (eq k) es none))

module _ {K N : Type 0} (eq : K → K → Bool) (laws : IsEquivalence eq) (name : K → N) (by_name : (a b c d : K) → name a ≡ name c → name b ≡ name d → eq a b ≡ eq c d) (key x : K) (alike : name key ≡ name x) (more : List N) where
  -- the first key of a list is apart from the one at x's place
  apart : (a : K) (ns : List N) (ks : List K) → ns ++ name x ∷ more ≡ map name ks → AllByRecursion (λ y. eq a y ≡ false) ks → eq x a ≡ false
  apart a [] [] is far = absurd (omega (arith, ap length is))
  apart a [] (b ∷ ks) is far = by_name x a b a (ap (λ l. get_or l 0 (name x)) is) refl ∙ laws.symm b a ∙ far.0
  apart a (n ∷ ns) [] is far = absurd (omega (arith, ap length is))
  apart a (n ∷ ns) (b ∷ ks) is far = apart a ns ks (ap (drop 1) is) far.1

  -- where pairs with the names of the first keys are there, the next key is not
  pub lookup-next : {V : Type 0} (done : List (K × V)) (keys : List K) → map (λ p. name p.0) done ++ name x ∷ more ≡ map name keys → IsDistinct eq keys → lookup (eq key) done ≡ None
  lookup-next [] keys is unique = refl
  lookup-next (d ∷ ds) [] is unique = absurd (omega (arith, ap length is))
  lookup-next (d ∷ ds) (a ∷ keys) is unique =
      let rest = ap (drop 1) is in
      ap (λ b. cond b (Some d.1) (lookup (eq key) ds)) (by_name key d.0 x a alike (ap (λ l. get_or l 0 (name x)) is) ∙ apart a (map (λ p. name p.0) ds) keys rest (IsDistinct-head eq a keys unique))
      ∙ lookup-next ds keys rest (IsDistinct-tail eq a keys unique)

pub ruleset rebuilt = (inserted-new, refl)
