-- The loop that makes new values, during its run and at its end, and what it leaves of a map in the definitions that
-- callers use.
use Rattle.starlark_hash.proofs.Common.{◌≡◌, ℕ, List, [], ◌∷◌, ◌++◌, map, refl, ap, ◌∙◌, IsPermutation, Mut, Called, IsPermutation-trans, Bool, length, arith, option_map}
use Rattle.starlark_unordered.specs.MapValues.{MapsValues, MapsMembers}
use Rattle.starlark_unordered.specs.Sound.{keyed}
use Rattle.starlark_unordered.proofs.PairMoves.{moves_one}
use Rattle.starlark_unordered.specs.Lookup.{found}
use Rattle.starlark_unordered.specs.Pairs.{HasDistinctKeys}
use Rattle.starlark_unordered.proofs.Callers.{found-map_values, same_found}

module _ {F V W : Type 0} (g : Mut F (V × Unit {0}) W) {K : Type 0} where
  pub length-mapped : (f : F) (ps : List (K × V)) (qs : List (K × W)) (last : F) → MapsValues g f ps qs last → length qs ≡ length ps
  length-mapped f [] qs last (none, same) = ap length none
  length-mapped f (p ∷ ps) qs last (w, next, rest, called, is, more) = omega (arith, ap length is, length-mapped next ps rest last more)

  module _ (change : V → W) where
    module _ (f : F) (says : (v : V) (w : W) (left : F) → Called g f (v, tt) w left → (w ≡ change v) × (left ≡ f)) where
      changed : (ps : List (K × V)) (qs : List (K × W)) (last : F) → MapsValues g f ps qs last → qs ≡ map (λ p. (p.0, change p.1)) ps
      changed [] qs last (none, ends) = none
      changed (p ∷ ps) qs last (w, next, rest, called, is, more) =
          let (gives, same) = says p.1 w next called in grind (arith, is, gives, changed ps rest last (rw same at more))

      -- each key has the changed value of the one that it had
      pub found-changed : (eq : K → K → Bool) (ps : List (K × V)) (qs new : List (K × W)) (last : F) → MapsValues g f ps qs last → IsPermutation qs new → HasDistinctKeys eq new
          → (key : K) → found (eq key) new ≡ option_map change (found (eq key) ps)
      found-changed eq ps qs new last maps moves distinct key =
          same_found (eq key) qs new moves (distinct key) ∙ ap (found (eq key)) (changed ps qs last maps) ∙ found-map_values change (eq key) ps

module _ {F V W : Type 0} (g : Mut F (V × Unit {0}) W) {K : Type 0} where
  -- whatever the rest of the loop makes, the whole loop makes that and what is made so far
  pub record Goes (first : F) (whole : List (ℕ × (K × V))) (initial : List (ℕ × (K × W))) (f : F) (walk : List (ℕ × (K × V))) (now : List (ℕ × (K × W))) : Type 0 where
    pub ends : (made : List (ℕ × (K × W))) (last : F) → MapsMembers g f walk made last
        → (all : List (ℕ × (K × W))) × MapsMembers g first whole all last × IsPermutation (all ++ initial) (made ++ now)

  pub goes_on : (first : F) (whole : List (ℕ × (K × V))) (initial : List (ℕ × (K × W))) (f : F) (m : ℕ × (K × V)) (walk : List (ℕ × (K × V))) (now : List (ℕ × (K × W))) (w : W) (f' : F) (later : List (ℕ × (K × W)))
      → Goes first whole initial f (m ∷ walk) now → Called g f (m.1.1, tt) w f' → IsPermutation ((m.0, (m.1.0, w)) ∷ now) later → Goes first whole initial f' walk later
  goes_on first whole initial f m walk now w f' later goes called put = record {
    ends = λ made last maps.
        let n : ℕ × (K × W) = (m.0, (m.1.0, w)) in
        let (all, made_all, moved) = goes.ends (n ∷ made) last (w, f', made, called, refl, maps) in
        (all, made_all, IsPermutation-trans (all ++ initial) (n ∷ (made ++ now)) (made ++ later) moved (moves_one n made now later put));
  }

  -- changing the values of members changes those of their pairs
  pub maps_pairs : (f : F) (ms : List (ℕ × (K × V))) (ns : List (ℕ × (K × W))) (last : F) → MapsMembers g f ms ns last → MapsValues g f (map (λ m. m.1) ms) (map (λ n. n.1) ns) last
  maps_pairs f [] ns last (none, same) = (ap (map (λ n. n.1)) none, same)
  maps_pairs f (m ∷ ms) ns last (w, next, rest, called, is, more) = (w, next, map (λ n. n.1) rest, called, ap (map (λ n. n.1)) is, maps_pairs next ms rest last more)

  -- hashes and keys do not change
  pub keyed-mapped : (f : F) (ms : List (ℕ × (K × V))) (ns : List (ℕ × (K × W))) (last : F) → MapsMembers g f ms ns last → keyed ns ≡ keyed ms
  keyed-mapped f [] ns last (none, same) = ap keyed none
  keyed-mapped f (m ∷ ms) ns last (w, next, rest, called, is, more) = ap keyed is ∙ ap (λ l. (m.0, m.1.0) ∷ l) (keyed-mapped next ms rest last more)
