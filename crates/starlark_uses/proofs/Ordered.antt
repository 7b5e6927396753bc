-- What a walk over the targets finds where each was declared after all that it is built from.
use Rattle.starlark_hash.proofs.Common.{◌≡◌, ℕ, zero, suc, ◌+◌, ◌<◌, Bool, true, List, [], ◌∷◌, length, map, get_or, refl, sym, subst, ◌∙◌, arith, IsTrue, enumerate_from, list_all, and_parts}
use Rattle.std.specs.Prelude.{◌↔◌, All}
use Rattle.std.specs.Global.{Vec}
use Rattle.std.proofs.lemmas.Bool.{and_from}
use Rattle.std.proofs.lemmas.List.Sums.{AllPass-from_list_all, list_all-from_AllPass}
use Rattle.starlark_hash.specs.Entries.{entry_value}
use Rattle.starlark_uses.specs.Graph.{Graph, IsOrdered, is_before}

abbrev lists : List (Vec ℕ) → List (List ℕ)
lists vs = map (λ v. v.items) vs

module _ (before : ℕ → ℕ → Bool) where
  -- what the walk tests, from an index on
  abbrev pub walked : ℕ → List (Vec ℕ) → Bool
  walked n vs = list_all (λ p. list_all (before p.0) p.1.items) (enumerate_from n vs)

  abbrev AreAfter : ℕ → List ℕ → Type 0
  AreAfter index parts = All (λ on. IsTrue (before index on)) parts

  from_walk : (n : ℕ) (vs : List (Vec ℕ)) → walked n vs ≡ true → (i index : ℕ) → index ≡ n + i → i < length (lists vs) → AreAfter index (get_or (lists vs) i [])
  from_walk n [] w i index is within = absurd (omega (arith, within))
  from_walk n (v ∷ vs) w zero index is within =
      let at : n ≡ index = omega (arith, is) in
      subst (λ k. AreAfter k v.items) at (AllPass-from_list_all (before n) v.items (and_parts (list_all (before n) v.items) (walked (n + 1) vs) w).0)
  from_walk n (v ∷ vs) w (suc i) index is within =
      from_walk (n + 1) vs (and_parts (list_all (before n) v.items) (walked (n + 1) vs) w).1 i index (omega (arith, is)) (omega (arith, within))

  to_walk : (n : ℕ) (vs : List (Vec ℕ)) → ((i index : ℕ) → index ≡ n + i → i < length (lists vs) → AreAfter index (get_or (lists vs) i [])) → walked n vs ≡ true
  to_walk n [] each = refl
  to_walk n (v ∷ vs) each =
      and_from (list_all (before n) v.items) (walked (n + 1) vs)
      (list_all-from_AllPass (before n) v.items (each 0 n (omega arith) (omega arith)))
      (to_walk (n + 1) vs (λ i index is within. each (suc i) index (omega (arith, is)) (omega (arith, within))))

-- the walk passes exactly where the targets are ordered
pub ordered_walk : (g : Graph) (answer : Bool) → answer ≡ walked (is_before g) 0 (map entry_value g.entries) → IsTrue answer ↔ IsOrdered g
ordered_walk g answer is =
    let vs = map entry_value g.entries in (
      (λ yes. λ index within. from_walk (is_before g) 0 vs (sym is ∙ yes) index index (omega arith) within),
      (λ ordered. is ∙ to_walk (is_before g) 0 vs (λ i index at within. subst (λ k. All (λ on. IsTrue (is_before g k on)) (get_or (lists vs) i [])) (omega (arith, at)) (ordered i within))),
    )
