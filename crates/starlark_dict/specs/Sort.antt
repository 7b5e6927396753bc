-- Lists of pairs in ascending order of their keys.
use Rattle.std.specs.Prelude.{List}
use Rattle.std.specs.Ordering.{is_lt}
use Rattle.std.specs.declared.cmp.Ordering.{Ordering}
use Rattle.starlark_hash.specs.Sort.{sorted_by}

-- the entries in ascending order of their keys, those with equal keys in the order that they had
abbrev pub sorted_by_key : {K V : Type 0} → (K → K → Ordering) → List (K × V) → List (K × V)
sorted_by_key cmp es = sorted_by (λ d e. is_lt (cmp d.0 e.0)) es

-- the items in ascending order, those that tie in the order that they had
abbrev pub sorted : {X : Type 0} → (X → X → Ordering) → List X → List X
sorted cmp xs = sorted_by (λ x y. is_lt (cmp x y)) xs
