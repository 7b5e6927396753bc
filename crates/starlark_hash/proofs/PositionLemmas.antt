-- The first index at which a test passes.
use Rattle.std.proofs.Common.{◌≡◌, refl, map, ℕ, zero, suc, ◌<◌, Bool, true, false, cond, List, [], ◌∷◌, length, get_or, Some, None, arith}
use Rattle.std.specs.Prelude.{position}
use Rattle.std.specs.Option.{option_map}
use Rattle.std.proofs.lemmas.Bool.Decides.{nat_tests}
use Rattle.std.proofs.lemmas.List.Quantifiers.{position-Some}

-- the position in a list, by the test of its first item
pub position-cons : {X : Type 0} (p : X → Bool) (x : X) (xs : List X) → position p (x ∷ xs) ≡ cond (p x) (Some 0) (option_map suc (position p xs))
position-cons p x xs = grind (arith, nat_tests)

-- the position in a mapped list
pub position-map : {A B : Type 0} (f : A → B) (p : B → Bool) (xs : List A) → position p (map f xs) ≡ position (λ x. p (f x)) xs
position-map f p [] = refl
position-map f p (x ∷ xs) = cc (position-cons p (f x) (map f xs), position-cons (λ y. p (f y)) x xs, position-map f p xs)

-- a position is within the length
pub position-within : {X : Type 0} (p : X → Bool) (xs : List X) (i : ℕ) → position p xs ≡ Some i → i < length xs
position-within p xs i e = grind (arith, nat_tests)

-- the item at the position passes the test
pub position-passes : {X : Type 0} (p : X → Bool) (xs : List X) (i : ℕ) (d : X) → position p xs ≡ Some i → p (get_or xs i d) ≡ true
position-passes p xs i d e = (position-Some p xs i d e).1

-- if there is no position, no item passes the test
pub position-None : {X : Type 0} (p : X → Bool) (xs : List X) → position p xs ≡ None → (k : ℕ) (d : X) → k < length xs → p (get_or xs k d) ≡ false
position-None p [] e k d below = absurd (omega arith)
position-None p (x ∷ xs) e zero d below = grind (arith, nat_tests)
position-None p (x ∷ xs) e (suc k) d below = position-None p xs (grind (arith, nat_tests)) k d (omega arith)
