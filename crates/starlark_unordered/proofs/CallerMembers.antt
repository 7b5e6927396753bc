-- Statements about all keys, values and pairs of an unordered map, or about one among them, after an insertion, a removal,
-- and a write through a reference. Each lemma takes the call's clause on pairs.
use Rattle.starlark_hash.proofs.Common.{◌≡◌, Bool, IfNone, IfSome, List, ◌∷◌, map, Option, Some, None, is_some, sym, ap, subst, ◌∙◌, All, Contains, keys_of, set_value, values_of, All-contains, All-cons, All-tail, cond_both, IsPermutation}
use Rattle.std.proofs.lemmas.Map.Views.{All-map-IsPermutation, All-values-set_value}
use Rattle.std.proofs.lemmas.Map.Made.{Contains-values_of}
use Rattle.starlark_table.specs.Table.{Table}
use Rattle.starlark_unordered.proofs.Callers.{at_some}
use Rattle.starlark_unordered.specs.Pairs.{found, IsWithout, IsWritten, pairs_of, with_pair}
use Rattle.std.proofs.lemmas.Map.{keys-set_value}
use Rattle.std.proofs.lemmas.List.Elements.{All-contains_itself}

-- Lemmas for an insertion, which adds one pair or writes the value at a key that is there.
module _ {K V : Type 0} (eq : K → K → Bool) (old new : List (K × V)) (key : K) (value : V) where
  by-case : (F : List (K × V) → Type 0) → F (set_value (eq key) old value) → F ((key, value) ∷ old) → F (with_pair eq key value old)
  by-case F there last = cond_both (is_some (found (eq key) old)) (set_value (eq key) old value) ((key, value) ∷ old) F (λ has. there) (λ not. last)

  pub All-keys-inserts : IsPermutation (with_pair eq key value old) new → (P : K → Type 0) → All P (keys_of old) → P key → All P (keys_of new)
  All-keys-inserts moves P all p = All-map-IsPermutation (λ (x : K × V). x.0) P (with_pair eq key value old) new moves
      (by-case (λ ps. All P (keys_of ps)) (subst (All P) (sym (keys-set_value (eq key) old value)) all) (All-cons P key (keys_of old) p all))

  pub All-values-inserts : IsPermutation (with_pair eq key value old) new → (P : V → Type 0) → All P (values_of old) → P value → All P (values_of new)
  All-values-inserts moves P all p = All-map-IsPermutation (λ (x : K × V). x.1) P (with_pair eq key value old) new moves
      (by-case (λ ps. All P (values_of ps)) (All-values-set_value (eq key) P old value all p) (All-cons P value (values_of old) p all))

-- a value that is found is one of the values
pub Contains-values-found : {K V : Type 0} (test : K → Bool) (ps : List (K × V)) (value : V) → found test ps ≡ Some value → Contains (values_of ps) value
Contains-values-found test ps value at = let r = at_some test ps value at in Contains-values_of ps r.0 value r.2

-- Lemmas for a removal, which adds nothing to what f reads of the pairs: their keys, their values or both.
module _ {K V X : Type 0} (f : K × V → X) (test : K → Bool) (old new : Table (K × V)) where
  pub All-removes : (r : Option V) → IfSome r (λ value. IsWithout test value (pairs_of old) (pairs_of new)) → IfNone r (new ≡ old) → (P : X → Type 0) → All P (map f (pairs_of old)) → All P (map f (pairs_of new))
  All-removes None out same P all = rw same all
  All-removes (Some v) out same P all = All-tail P (f (out.0, v)) (map f (pairs_of new)) (All-map-IsPermutation f P (pairs_of old) ((out.0, v) ∷ pairs_of new) out.2 all)

  pub Contains-removes : (r : Option V) → IfSome r (λ value. IsWithout test value (pairs_of old) (pairs_of new)) → IfNone r (new ≡ old) → (x : X) → Contains (map f (pairs_of new)) x → Contains (map f (pairs_of old)) x
  Contains-removes r out same x at =
      let ps = map f (pairs_of old) in All-contains (Contains ps) (map f (pairs_of new)) x (All-removes r out same (Contains ps) (All-contains_itself ps)) at

-- Lemmas for a value written through a reference, which changes no key.
module _ {K V : Type 0} {test : K → Bool} {old new : Table (K × V)} {value : V} (writes : IsWritten test old value new) where
  pub All-keys-writes : (P : K → Type 0) → All P (keys_of (pairs_of old)) → All P (keys_of (pairs_of new))
  All-keys-writes P all = subst (All P) (sym (ap keys_of writes.pairs ∙ keys-set_value test (pairs_of old) value)) all

  pub All-values-writes : (P : V → Type 0) → All P (values_of (pairs_of old)) → P value → All P (values_of (pairs_of new))
  All-values-writes P all p = subst (λ ps. All P (values_of ps)) (sym writes.pairs) (All-values-set_value test P (pairs_of old) value all p)

-- the lemmas of this page as one set
pub ruleset members = (All-keys-inserts, All-values-inserts, Contains-values-found, All-removes, Contains-removes, All-keys-writes, All-values-writes)
