-- The loop of `retain`: what it keeps, and the indices of what it moves.
use Rattle.starlark_hash.proofs.Common.{◌≡◌, ℕ, ◌+◌, ◌<◌, ◌≤◌, Bool, true, false, List, [], ◌∷◌, ◌++◌, length, take, drop, zip, get_or, refl, ap, arith, append_assoc, append-nil, length-take, cases_lt, common_steps, drop_more, drop_all, swap_is, swap}
use Rattle.std.proofs.Common.{set}
use Rattle.std.proofs.lemmas.List.{take-set-le, drop-set-lt}
use Rattle.starlark_hash.specs.Retain.{Retains, TakesInTurn}
use Rattle.starlark_vec2.proofs.Pairs.{zip_push}

module _ {F X : Type 0} (calls : F → X → Bool → X → F → Type 0) (takes : F → X → Type 0) where
  -- a closure f0 was called on the items of `all` before those in `left`, kept `done` of them, and is f now
  pub record Sieving (f0 : F) (all : List X) (f : F) (done left : List X) : Type 0 where
    pub ready : TakesInTurn calls takes f left
    pub rest : (kept : List X) → Retains calls f left kept → Retains calls f0 all (done ++ kept)

module _ {X : Type 0} where
  -- the item at i is the first of those from i on
  leads : (xs : List X) (i : ℕ) (x : X) → i < length xs → x ≡ get_or xs i x → drop i xs ≡ x ∷ drop (i + 1) xs
  leads xs i x lt e = cc (drop_more xs i x lt)

  -- swapping the item at k with one that was written at a later i puts the latter at the end of the first k + 1
  moved_front : (xs : List X) (k i : ℕ) (x : X) → k ≤ i → i < length xs → take (k + 1) (swap (set xs i x) k i) ≡ take k xs ++ x ∷ []
  moved_front xs k i x le lt = grind (arith, common_steps, swap_is (set xs i x) k i x, cases_lt k i)

  moved_back : (xs : List X) (k i : ℕ) (x : X) → k ≤ i → i < length xs → drop (i + 1) (swap (set xs i x) k i) ≡ drop (i + 1) xs
  moved_back xs k i x le lt = grind (arith, common_steps, swap_is (set xs i x) k i x)

module _ {F A B : Type 0} (calls : F → A × B → Bool → A × B → F → Type 0) (takes : F → A × B → Type 0) (f0 : F) (all : List (A × B)) where
  -- the loop over two columns has visited the first i cells, and keeps the first k of them
  pub record Sifting (f : F) (xs : List A) (ys : List B) (k i : ℕ) : Type 0 where
    pub sieving : Sieving calls takes f0 all f (zip (take k xs) (take k ys)) (zip (drop i xs) (drop i ys))

  module _ (f : F) (xs : List A) (ys : List B) (k i : ℕ) (s : Sifting f xs ys k i) (a : A) (b : B) (lt : i < length xs) (same : length xs ≡ length ys) (d : a ≡ get_or xs i a) (e : b ≡ get_or ys i b) where
    next : Sieving calls takes f0 all f (zip (take k xs) (take k ys)) ((a, b) ∷ zip (drop (i + 1) xs) (drop (i + 1) ys))
    next = rw (leads xs i a lt d, leads ys i b (omega arith) e) at s.sieving

    pub sifting_asks : takes f (a, b)
    sifting_asks = next.ready.at [] _ f (a, b) refl refl

    module _ (le : k ≤ i) (x : A) (y : B) (f' : F) (xs' : List A) (ys' : List B) (k' : ℕ) where
      pub sifting_keeps : calls f (a, b) true (x, y) f' → xs' ≡ swap (set xs i x) k i → ys' ≡ swap (set ys i y) k i → k' ≡ k + 1 → Sifting f' xs' ys' k' (i + 1)
      sifting_keeps t p q r =
          let front = zip_push (take k xs) (take k ys) x y (omega (arith, length-take k xs, length-take k ys)) in
          rw (p, q, r) (record {
            sieving = rw (moved_front xs k i x le lt, moved_front ys k i y le (omega arith), front, moved_back xs k i x le lt, moved_back ys k i y le (omega arith))
                (record {
                  ready = record { at = λ before after u z e r. next.ready.at ((a, b) ∷ before) after u z (ap (λ l. (a, b) ∷ l) e) (f', (true, (x, y), t), r) };
                  rest = λ kept r. rw append_assoc (next.rest ((x, y) ∷ kept) (true, (x, y), f', kept, t, r, refl));
                });
          })

      pub sifting_drops : calls f (a, b) false (x, y) f' → xs' ≡ set xs i x → ys' ≡ set ys i y → k' ≡ k → Sifting f' xs' ys' k' (i + 1)
      sifting_drops t p q r = rw (p, q, r) (record {
        sieving = rw (take-set-le k xs i x le, take-set-le k ys i y le, drop-set-lt (i + 1) xs i x (omega arith), drop-set-lt (i + 1) ys i y (omega arith))
            (record {
              ready = record { at = λ before after u z e r. next.ready.at ((a, b) ∷ before) after u z (ap (λ l. (a, b) ∷ l) e) (f', (false, (x, y), t), r) };
              rest = λ kept r. next.rest kept (false, (x, y), f', kept, t, r, refl);
            });
      })

  pub sifting_ends : (f : F) (xs : List A) (ys : List B) (k i : ℕ) → Sifting f xs ys k i → length xs ≤ i → (xs' : List A) (ys' : List B) → xs' ≡ take k xs → ys' ≡ take k ys → Retains calls f0 all (zip xs' ys')
  sifting_ends f xs ys k i s le xs' ys' p q = rw (p, q) (let ended : Sieving calls takes f0 all f (zip (take k xs) (take k ys)) [] = rw (drop_all i xs le) at s.sieving in rw append-nil at (ended.rest [] refl))
