-- A list of pairs and its two columns, which have the same length.
use Rattle.starlark_hash.proofs.Common.{◌≡◌, ℕ, zero, suc, List, [], ◌∷◌, ◌++◌, length, length-map, take, zip, slice_get, reverse, remove, Bool, ◌&&◌, refl, ap, arith, length_push, nat_tests, common_steps, AllZip, pointwise}
use Rattle.std.proofs.Common.{set}
use Rattle.std.proofs.lemmas.Slice.Zip.{length-zip, firsts-zip, seconds-zip}
use Rattle.std.specs.Option.{option_zip}
use Rattle.starlark_vec2.specs.PairList.{firsts_of, seconds_of}
use Rattle.starlark_hash.specs.Clone.{IsPairClone}
use Rattle.starlark_vec2.specs.Lend.{set_first_at, with_values}
use Rattle.starlark_vec2.specs.Loan.{with_seconds}
use Rattle.std.proofs.lemmas.List.{map_push}

module _ {A B : Type 0} where
  pub zip-parts : (ps : List (A × B)) → zip (firsts_of ps) (seconds_of ps) ≡ ps
  zip-parts [] = refl
  zip-parts (p ∷ ps) = cc (zip-parts ps)

  pub zip_push : (xs : List A) (ys : List B) (x : A) (y : B) → length xs ≡ length ys → zip (xs ++ x ∷ []) (ys ++ y ∷ []) ≡ zip xs ys ++ (x, y) ∷ []
  zip_push [] [] x y e = refl
  zip_push (a ∷ xs) (b ∷ ys) x y e = cc (zip_push xs ys x y (omega arith))
  zip_push xs ys x y e = absurd (omega arith)

  -- the list of pairs after each of both columns has lost its last part
  pub pair_back : (xs us : List A) (ys vs : List B) (x : A) (y : B) → xs ≡ us ++ x ∷ [] → ys ≡ vs ++ y ∷ [] → length ys ≡ length xs → zip xs ys ≡ zip us vs ++ (x, y) ∷ []
  pair_back xs us ys vs x y p q e = cc (zip_push us vs x y (omega (arith, ap length p, ap length q, length_push us x, length_push vs y)))

  pub zip-take : (n : ℕ) (xs : List A) (ys : List B) → zip (take n xs) (take n ys) ≡ take n (zip xs ys)
  zip-take (suc n) (x ∷ xs) (y ∷ ys) = cc (zip-take n xs ys)
  zip-take n xs ys = refl

  pub zip-remove : (xs : List A) (ys : List B) (i : ℕ) → zip (remove xs i) (remove ys i) ≡ remove (zip xs ys) i
  zip-remove [] ys zero = refl
  zip-remove (x ∷ []) [] zero = refl
  zip-remove (x ∷ y ∷ xs) [] zero = refl
  zip-remove (x ∷ xs) (y ∷ ys) (suc i) = cc (zip-remove xs ys i)
  zip-remove xs ys i = refl

  pub zip-reverse : (xs : List A) (ys : List B) → length xs ≡ length ys → zip (reverse xs) (reverse ys) ≡ reverse (zip xs ys)
  zip-reverse [] [] e = refl
  zip-reverse (x ∷ xs) (y ∷ ys) e = grind (arith, common_steps, zip_push, zip-reverse xs ys)
  zip-reverse xs ys e = absurd (omega arith)

  pub slice_get-zip : (xs : List A) (ys : List B) (i : ℕ) → slice_get (zip xs ys) i ≡ option_zip (slice_get xs i) (slice_get ys i)
  slice_get-zip (x ∷ xs) (y ∷ ys) (suc i) = slice_get-zip xs ys i
  slice_get-zip xs ys i = grind arith

  -- clones of both columns are clones of the pairs
  pub AllZip-zip : (C : A → A → Type 0) (D : B → B → Type 0) (xs us : List A) (ys vs : List B) → AllZip C xs us → AllZip D ys vs → AllZip (IsPairClone C D) (zip xs ys) (zip us vs)
  AllZip-zip C D (x ∷ xs) (u ∷ us) (y ∷ ys) (v ∷ vs) p q = ((p.0, q.0), AllZip-zip C D xs us ys vs p.1 q.1)
  AllZip-zip C D xs us ys vs p q = grind arith

  -- the list of pairs after one part of a column was written
  pub zip-set_first : (xs : List A) (ys : List B) (i : ℕ) (x : A) → zip (set xs i x) ys ≡ set_first_at (zip xs ys) i x
  zip-set_first (z ∷ xs) (y ∷ ys) (suc i) x = cc (zip-set_first xs ys i x)
  zip-set_first xs ys i x = grind arith

  pub zip-set : (xs : List A) (ys : List B) (i : ℕ) (x : A) (y : B) → zip (set xs i x) (set ys i y) ≡ set (zip xs ys) i (x, y)
  zip-set (z ∷ xs) (w ∷ ys) (suc i) x y = cc (zip-set xs ys i x y)
  zip-set xs ys i x y = grind arith

module _ {K V B : Type 0} where
  -- pairs whose values were written keep their keys and their second parts
  pub with_values-zip : (ps ws : List (K × V)) (bs : List B) → with_values (zip ps bs) (zip (with_seconds ps ws) bs) ≡ zip (with_seconds ps ws) bs
  with_values-zip (p ∷ ps) [] (b ∷ bs) = cc (with_values-zip ps [] bs)
  with_values-zip (p ∷ ps) (w ∷ ws) (b ∷ bs) = cc (with_values-zip ps ws bs)
  with_values-zip ps ws bs = refl

module _ {A B : Type 0} (eq : A → A → Bool) (eq2 : B → B → Bool) where
  -- pairs are equal one by one if both columns are
  pub pointwise_pairs : (ps qs : List (A × B)) → pointwise (λ p q. eq p.0 q.0 && eq2 p.1 q.1) ps qs ≡ (pointwise eq (firsts_of ps) (firsts_of qs) && pointwise eq2 (seconds_of ps) (seconds_of qs))
  pointwise_pairs [] [] = refl
  pointwise_pairs (p ∷ ps) (q ∷ qs) = grind (arith, nat_tests, pointwise_pairs ps qs)
  pointwise_pairs ps qs = refl

-- lemmas for a call on the columns
pub ruleset columns = (length-zip, firsts-zip, seconds-zip, zip_push, zip-take, zip-remove, zip-reverse)

-- lemmas for an iterator over the values
pub ruleset values = (map_push, length-map)
