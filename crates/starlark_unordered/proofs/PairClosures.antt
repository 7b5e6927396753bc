-- Closures over pairs: what they keep of the pairs, and how a closure over items calls one over pairs.
use Rattle.starlark_hash.proofs.Common.{◌≡◌, ℕ, Bool, true, false, cond, List, [], ◌∷◌, map, ap, subst, arith, Bor, MutBor, Mut, All, FoldsTo, RetainsInTurn, HashWrites, All-tail, All-cons, All-head, ◌≤◌, IsPermutation, is_some, count_by, sum_by-IsPermutation, common_steps, filter}
use Rattle.std.specs.Fn.{CalledAtMut}
use Rattle.starlark_table.specs.Walk.{CanRetain, TakesAtMut, AsksMember}
use Rattle.starlark_unordered.specs.Retain.{TakesPair, AsksPair, CanAskPairs}
use Rattle.starlark_unordered.specs.Sound.{IsKeyed, keyed, home_of}
use Rattle.starlark_unordered.proofs.Keys.{counts-keyed, distinct_pairs}
use Rattle.starlark_unordered.specs.Lookup.{found}
use Rattle.starlark_unordered.proofs.Lists.{none_counted, nothing}

module _ {F K V : Type 0} (g : Mut F (Bor K × (MutBor V × Unit {0})) (Bool × (MutBor V × Unit {0}))) where
  counts-kept : (t : K → Bool) (f : F) (ps kept : List (K × V)) → RetainsInTurn (AsksPair g) f ps kept → count_by (λ p. t p.0) kept ≤ count_by (λ p. t p.0) ps
  counts-kept t f [] kept none = rw none (omega arith)
  counts-kept t f (p ∷ ps) kept (b, f', q, called, rest, others, is) = grind (arith, common_steps, is, called.leaves, counts-kept t f' ps rest others)

  -- a key that is found among the kept pairs was found among the old ones
  pub found-kept : (t : K → Bool) (f : F) (old kept new : List (K × V)) → RetainsInTurn (AsksPair g) f old kept → IsPermutation kept new → is_some (found t new) ≡ true → is_some (found t old) ≡ true
  unfolding found
  found-kept t f old kept new asked moved there =
      let same = sum_by-IsPermutation (λ (p : K × V). cond (t p.0) 1 0) kept new moved in
      grind (arith, nothing t new, none_counted t old, same, counts-kept t f old kept asked, there)

-- a call on a pair is a call on an equal one
pub asks_same : {F K V : Type 0} (g : Mut F (Bor K × (MutBor V × Unit {0})) (Bool × (MutBor V × Unit {0}))) (f f' : F) (b : Bool) (p x q y : K × V) → p ≡ x → q ≡ y → AsksPair g f p b f' q → AsksPair g f x b f' y
asks_same g f f' b p x q y e d asks = subst (λ s. s) (λ i. AsksPair g f (e i) b f' (d i)) asks

-- The closure w is called on a `&mut` to an item and calls g on the pair. `inner` is the state of g in the state of w.
module _ {C F K V : Type 0} (g : Mut F (Bor K × (MutBor V × Unit {0})) (Bool × (MutBor V × Unit {0}))) (w : Mut C (MutBor (K × V) × Unit {0}) (Bool × (MutBor (K × V) × Unit {0}))) (inner : C → F)
    (carries : (s t : C) (b : Bool) (x y : K × V) → CalledAtMut w s x b t y → AsksPair g (inner s) x b (inner t) y) where
  carried : (before : List (K × V)) (s later : C) → FoldsTo (λ s x t. (keeps : Bool) × (y : K × V) × CalledAtMut w s x keeps t y) s before later
      → FoldsTo (λ f x f'. (keeps : Bool) × (y : K × V) × AsksPair g f x keeps f' y) (inner s) before (inner later)
  carried [] s later same = ap inner same
  carried (x ∷ before) s later (t, (b, y, called), rest) = (inner t, (b, y, carries s t b x y called), carried before t later rest)

  pub can_retain : ((s : C) (x : K × V) → TakesPair g (inner s) x → TakesAtMut w s x) → (items : List (K × V)) (s : C) → CanAskPairs g items (inner s) → CanRetain w items s
  can_retain takes items s can = record { at = λ before x after later is calls. takes later x (can.at before x after (inner later) is (carried before s later calls)) }

  pub retained_pairs : (ms kept : List (ℕ × (K × V))) (s : C) → RetainsInTurn (AsksMember w) s ms kept → RetainsInTurn (AsksPair g) (inner s) (map (λ m. m.1) ms) (map (λ m. m.1) kept)
  retained_pairs [] kept s none = ap (map (λ m. m.1)) none
  retained_pairs (m ∷ ms) kept s (b, t, n, asks, rest, more, is) =
      (b, inner t, n.1, carries s t b m.1 n.1 asks.called, map (λ m. m.1) rest, retained_pairs ms rest t more, grind (arith, is))

  retained-all : (P : ℕ × K → Type 0) (ms kept : List (ℕ × (K × V))) (s : C) → RetainsInTurn (AsksMember w) s ms kept → All P (keyed ms) → All P (keyed kept)
  retained-all P [] kept s none all = rw none all
  retained-all P (m ∷ ms) kept s (true, t, n, asks, rest, more, is) all =
      let key = ap (λ p. p.0) (carries s t true m.1 n.1 asks.called).leaves in
      rw is (All-cons P (n.0, n.1.0) (keyed rest) (rw (asks.hash, key) (All-head P (m.0, m.1.0) (keyed ms) all)) (retained-all P ms rest t more (All-tail P (m.0, m.1.0) (keyed ms) all)))
  retained-all P (m ∷ ms) kept s (false, t, n, asks, rest, more, is) all = rw is (retained-all P ms rest t more (All-tail P (m.0, m.1.0) (keyed ms) all))

  -- the invariant holds for the kept members
  pub keyed-retained : (eq : K → K → Bool) (feeds : K → HashWrites) (ms kept : List (ℕ × (K × V))) (s : C) → RetainsInTurn (AsksMember w) s ms kept → IsKeyed eq feeds (keyed ms) → IsKeyed eq feeds (keyed kept)
  keyed-retained eq feeds ms kept s r keys =
      let fewer = λ (k : K). counts-kept g (eq k) (inner s) (map (λ m. m.1) ms) (map (λ m. m.1) kept) (retained_pairs ms kept s r) in
      let own = retained-all (λ p. p.0 ≡ home_of feeds p.1) ms kept s r keys.own in
      record { own = own; distinct = λ k. omega (arith, counts-keyed (eq k) kept, fewer k, distinct_pairs eq feeds ms keys k) }

-- calls that answer by a test of the item, and change neither it nor the closure, filter the list
pub tested_pairs : {F X : Type 0} (calls : F → X → Bool → F → X → Type 0) (test : X → Bool) (f : F) → ((x : X) (keeps : Bool) (left : F) (y : X) → calls f x keeps left y → (keeps ≡ test x) × (y ≡ x) × (left ≡ f))
    → (xs kept : List X) → RetainsInTurn calls f xs kept → kept ≡ filter test xs
tested_pairs calls test f says [] kept none = none
tested_pairs calls test f says (x ∷ xs) kept (keeps, left, y, called, rest, others, is) =
    let (tested, stays, same) = says x keeps left y called in
    grind (arith, is, tested, stays, tested_pairs calls test f says xs rest (rw same at others))

-- calls that keep each pair, change its value in this way, and do not change the closure, change all values
pub changed_pairs : {F K V : Type 0} (calls : F → K × V → Bool → F → K × V → Type 0) (change : V → V) (f : F)
    → ((p : K × V) (keeps : Bool) (left : F) (q : K × V) → calls f p keeps left q → (keeps ≡ true) × (q ≡ (p.0, change p.1)) × (left ≡ f))
    → (ps kept : List (K × V)) → RetainsInTurn calls f ps kept → kept ≡ map (λ p. (p.0, change p.1)) ps
changed_pairs calls change f says [] kept none = none
changed_pairs calls change f says (p ∷ ps) kept (keeps, left, q, called, rest, others, is) =
    let (stays, leaves, same) = says p keeps left q called in
    grind (arith, is, stays, leaves, changed_pairs calls change f says ps rest (rw same at others))
