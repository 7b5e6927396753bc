-- Lists of images: an edit of the images is the image of the edit.
use Rattle.starlark_hash.proofs.Common.{◌≡◌, ℕ, suc, ◌+◌, ◌<◌, Bool, true, false, cond, List, [], ◌∷◌, ◌++◌, length, take, drop, refl, sym, ap, ◌∙◌, map, remove, reverse, IsSortedBy, length-map, map-append}
use mathlib.Core.List.{reverse_aux}
use Rattle.std.proofs.Math.ListN.{get_or-map}
use Rattle.std.proofs.lemmas.List.{take-map, drop-map}
use Rattle.starlark_hash.specs.Sort.{insert_sorted, sorted_by}

module _ {A B : Type 0} (f : A → B) where
  pub remove-map : (xs : List A) (i : ℕ) → remove (map f xs) i ≡ map f (remove xs i)
  remove-map xs i =
      ap (λ ys. ys ++ drop (suc i) (map f xs)) (take-map f i xs) ∙ ap (λ ys. map f (take i xs) ++ ys) (drop-map f (suc i) xs)
      ∙ sym (map-append f (take i xs) (drop (suc i) xs))

  reverse_aux-map : (xs acc : List A) → reverse_aux (map f xs) (map f acc) ≡ map f (reverse_aux xs acc)
  reverse_aux-map [] acc = refl
  reverse_aux-map (x ∷ xs) acc = reverse_aux-map xs (x ∷ acc)

  pub reverse-map : (xs : List A) → reverse (map f xs) ≡ map f (reverse xs)
  reverse-map xs = reverse_aux-map xs []

  cond-map : (b : Bool) (xs ys : List A) → cond b (map f xs) (map f ys) ≡ map f (cond b xs ys)
  cond-map true xs ys = refl
  cond-map false xs ys = refl

  insert_sorted-map : (lt : B → B → Bool) (x : A) (ys : List A) → insert_sorted lt (f x) (map f ys) ≡ map f (insert_sorted (λ a b. lt (f a) (f b)) x ys)
  insert_sorted-map lt x [] = refl
  insert_sorted-map lt x (y ∷ ys) =
      ap (λ zs. cond (lt (f y) (f x)) (f y ∷ zs) (f x ∷ f y ∷ map f ys)) (insert_sorted-map lt x ys)
      ∙ cond-map (lt (f y) (f x)) (y ∷ insert_sorted (λ a b. lt (f a) (f b)) x ys) (x ∷ y ∷ ys)

  pub sorted_by-map : (lt : B → B → Bool) (xs : List A) → sorted_by lt (map f xs) ≡ map f (sorted_by (λ a b. lt (f a) (f b)) xs)
  sorted_by-map lt [] = refl
  sorted_by-map lt (x ∷ xs) = ap (insert_sorted lt (f x)) (sorted_by-map lt xs) ∙ insert_sorted-map lt x (sorted_by (λ a b. lt (f a) (f b)) xs)

  -- the images ascend only where the items do
  pub ascends-map : (lt : B → B → Bool) (xs : List A) → IsSortedBy lt (map f xs) → IsSortedBy (λ a b. lt (f a) (f b)) xs
  ascends-map lt xs h = λ k d low high.
      let within : k + 1 < length (map f xs) = rw (length-map xs f) high in
      rw (get_or-map f xs (k + 1) d, get_or-map f xs k d) at (h k (f d) low within)
