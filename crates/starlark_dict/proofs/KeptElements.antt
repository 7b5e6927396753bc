-- What a retention of a dictionary's pairs is to its keys, where the closure looks at the key alone.
use Rattle.starlark_hash.proofs.Common.{[], ◌∙◌, ◌∷◌, ◌≡◌, Bool, Bor, CalledAt, FoldsTo, List, Mut, TakesAt, ap, cond, filter, keys_of, map-append}
use Rattle.std.specs.Map.Calls.{CallableOnEachPair, RetainsPairs, SomeCallAtPair}
use Rattle.std_collections.proofs.SetLists.{cond_map}
use Rattle.starlark_hash.specs.Retain.{MayLeave}
use Rattle.starlark_dict.specs.Retain.{CallableOnEach}

-- calls of one closure, seen as calls of another
module _ {F G K X : Type 0} (calls : F → K → X → Bool → X → F → Type 0) (seen : G → K → X → Bool → X → G → Type 0) (st : F → G)
    (on : (f : F) (k : K) (v : X) (b : Bool) (w : X) (f' : F) → calls f k v b w f' → seen (st f) k v b w (st f')) where
  pub retains_seen : (f : F) (es kept : List (K × X)) → RetainsPairs calls f es kept → RetainsPairs seen (st f) es kept
  retains_seen f [] kept none = none
  retains_seen f (e ∷ es) kept (b, w, f', rest, called, others, is) = (b, w, st f', rest, on f e.0 e.1 b w f' called, retains_seen f' es rest others, is)

  folds_seen : (f : F) (es : List (K × X)) (last : F) → FoldsTo (SomeCallAtPair calls) f es last → FoldsTo (SomeCallAtPair seen) (st f) es (st last)
  folds_seen f [] last same = ap st same
  folds_seen f (e ∷ es) last (f', (b, w, called), rest) = (st f', (b, w, on f e.0 e.1 b w f' called), folds_seen f' es last rest)

  pub callable_seen : (asks : F → K → X → Type 0) (sees : G → K → X → Type 0) → ((f : F) (k : K) (v : X) → sees (st f) k v → asks f k v) → (f : F) (es : List (K × X)) → CallableOnEachPair seen sees (st f) es → CallableOnEachPair calls asks f es
  callable_seen asks sees back f es can = record { at = λ before after last k v is folds. back last k v (can.at before after (st last) k v is (folds_seen f before last folds)) }

-- calls that answer by a test of the key, in states that they keep, filter the keys
module _ {F K X : Type 0} (g : Mut F (Bor K × Unit {0}) Bool) (test : K → Bool) (keeps_state : F → Type 0) (says : (f : F) (k : K) (b : Bool) (f' : F) → keeps_state f → CalledAt g f k b f' → (b ≡ test k) × keeps_state f') where
  pub keys_filtered : (f : F) → keeps_state f → (es kept : List (K × X)) → RetainsPairs (λ f k v b w f'. CalledAt g f k b f') f es kept → keys_of kept ≡ filter test (keys_of es)
  keys_filtered f so [] kept none = ap keys_of none
  keys_filtered f so (e ∷ es) kept (b, w, f', rest, called, others, is) =
      let s = says f e.0 b f' so called in
      let more = keys_filtered f' s.1 es rest others in
      ap keys_of is ∙ cond_map keys_of b ((e.0, w) ∷ rest) rest ∙ (λ i. cond (s.0 i) (e.0 ∷ more i) (more i))

-- a closure that may be called at each key in turn may be called at each pair
module _ {F K X : Type 0} (g : Mut F (Bor K × Unit {0}) Bool) where
  folds_keys : (f : F) (es : List (K × X)) (last : F) → FoldsTo (SomeCallAtPair (λ f k v b w f'. CalledAt g f k b f')) f es last → FoldsTo (MayLeave (λ f x keeps y f'. CalledAt g f x keeps f')) f (keys_of es) last
  folds_keys f [] last same = same
  folds_keys f (e ∷ es) last (f', (b, w, called), rest) = (f', (b, e.0, called), folds_keys f' es last rest)

  pub callable_on_pairs : (f : F) (es : List (K × X)) → CallableOnEach g f (keys_of es) → CallableOnEachPair (λ f k v b w f'. CalledAt g f k b f') (λ f k v. TakesAt g f k) f es
  callable_on_pairs f es can = record { at = λ before after last k v is folds. can.at (keys_of before) (keys_of after) last k (ap keys_of is ∙ map-append (λ (p : K × X). p.0) before ((k, v) ∷ after)) (folds_keys f before last folds) }
