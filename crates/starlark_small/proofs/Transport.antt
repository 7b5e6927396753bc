-- A search by one closure, as a search by another that it asks.
use Rattle.starlark_hash.proofs.Common.{◌≡◌, Bool, true, false, List, [], ◌∷◌, ◌++◌, map, Option, Some, None, refl, ap, subst, ◌∙◌, arith, IsPermutation, Bor, Mut, CalledAt, TakesAt, Contains, map-append, IsPermutation-sym, IsPermutation-trans, IsPermutation-map, Contains-permutation}
use Rattle.std.proofs.lemmas.List.Elements.{Contains-append_left, Contains-append_right}
use Rattle.starlark_hash.specs.Search.{Asks, Searches, Refuses, CanSearch}

-- w, asked about an item, asks g about the item that `key` makes of it; inner is g's state in w's, and Sees says what w knows
module _ {C F N M X Y : Type 0} (w : Mut C (Bor X × Unit {0}) Bool) (g : Mut F (Bor Y × Unit {0}) Bool) (inner : C → F) (Sees : C → Type 0) (key : N × X → M × Y) (items : List (N × X)) where
  abbrev Among : List (N × X) → Type 0
  Among ps = (p : N × X) → Contains ps p → Contains items p

  moved_among : (order : List (N × X)) → IsPermutation items order → Among order
  moved_among order moves p there = Contains-permutation order items p (IsPermutation-sym items order moves) there

  keys-moved : (keys : List (M × Y)) (order : List (N × X)) → IsPermutation keys (map key items) → IsPermutation items order → IsPermutation keys (map key order)
  keys-moved keys order same moves = IsPermutation-trans keys (map key items) (map key order) same (IsPermutation-map key items order moves)

  module _ (relate : (p : N × X) → Contains items p → (s : C) (b : Bool) (t : C) → Sees s → CalledAt w s p.1 b t → Sees t × CalledAt g (inner s) (key p).1 b (inner t)) where
    -- what w refuses, g refuses
    refusals : (ps : List (N × X)) (s later : C) → Among ps → Refuses w s ps later → Sees s → Sees later × Refuses g (inner s) (map key ps) (inner later)
    refusals [] s later among folds sees = (subst Sees folds sees, ap inner folds)
    refusals (p ∷ ps) s later among (t, called, folds) sees =
        let next = relate p (among p (0, omega arith, refl)) s false t sees called in
        let rest = refusals ps t later (λ q there. among q (Contains-append_right (p ∷ []) ps q there)) folds next.0 in (rest.0, (inner t, next.1, rest.1))

    asks : (name : Option N → Option M) → name None ≡ None → ((p : N × X) → Contains items p → name (Some p.0) ≡ Some (key p).0) → (ps : List (N × X)) (s last : C) (answer : Option N) → Among ps → Asks w s ps answer last → Sees s
        → Asks g (inner s) (map key ps) (name answer) (inner last)
    asks name none named [] s last answer among (is, same) sees = (ap name is ∙ none, ap inner same)
    asks name none named (p ∷ ps) s last answer among (true, t, called, (is, same)) sees =
        let next = relate p (among p (0, omega arith, refl)) s true t sees called in
        (true, inner t, next.1, (ap name is ∙ named p (among p (0, omega arith, refl)), ap inner same))
    asks name none named (p ∷ ps) s last answer among (false, t, called, rest) sees =
        let next = relate p (among p (0, omega arith, refl)) s false t sees called in
        (false, inner t, next.1, asks name none named ps t last answer (λ q there. among q (Contains-append_right (p ∷ []) ps q there)) rest next.0)

    -- w may search if g may
    pub can_transport : (keys : List (M × Y)) (s : C) → IsPermutation keys (map key items) → ((p : N × X) → Contains items p → (s : C) → Sees s → TakesAt g (inner s) (key p).1 → TakesAt w s p.1)
        → Sees s → CanSearch g keys (inner s) → CanSearch w items s
    can_transport keys s same pass sees may = record {
      at = λ before p after later moves refused.
          let among = moved_among (before ++ p ∷ after) moves in
          let left = refusals before s later (λ q there. among q (Contains-append_left before (p ∷ after) q there)) refused sees in
          let moved = subst (IsPermutation keys) (map-append key before (p ∷ after)) (keys-moved keys (before ++ p ∷ after) same moves) in
          pass p (among p (Contains-append_right before (p ∷ after) p (0, omega arith, refl))) later left.0 (may.at (map key before) (key p) (map key after) (inner later) moved left.1);
    }

    -- what w finds, g finds
    pub transported : (name : Option N → Option M) → name None ≡ None → ((p : N × X) → Contains items p → name (Some p.0) ≡ Some (key p).0) → (keys : List (M × Y)) (s last : C) (answer : Option N) → IsPermutation keys (map key items)
        → Sees s → Searches w items s answer last → Searches g keys (inner s) (name answer) (inner last)
    transported name none named keys s last answer same sees search = record {
      order = map key search.order;
      rearranged = keys-moved keys search.order same search.rearranged;
      asks = asks name none named search.order s last answer (moved_among search.order search.rearranged) search.asks sees;
    }
