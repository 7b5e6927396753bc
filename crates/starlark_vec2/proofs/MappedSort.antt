-- Sorting a mapped list is mapping the sorted list.
use Rattle.starlark_hash.proofs.Common.{◌≡◌, Bool, List, [], ◌∷◌, map, refl, arith, nat_tests}
use Rattle.starlark_hash.specs.Sort.{insert_sorted, sorted_by}

module _ {X Y : Type 0} (lt : X → X → Bool) (f : Y → X) where
  insert_sorted-map : (y : Y) (ys : List Y) → insert_sorted lt (f y) (map f ys) ≡ map f (insert_sorted (λ a b. lt (f a) (f b)) y ys)
  insert_sorted-map y [] = refl
  insert_sorted-map y (u ∷ us) = grind (arith, nat_tests, insert_sorted-map y us)

  pub sorted_by-map : (ys : List Y) → sorted_by lt (map f ys) ≡ map f (sorted_by (λ a b. lt (f a) (f b)) ys)
  sorted_by-map [] = refl
  sorted_by-map (y ∷ ys) = cc (sorted_by-map ys, insert_sorted-map y (sorted_by (λ a b. lt (f a) (f b)) ys))
