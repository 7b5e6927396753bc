-- How dictionaries compare by order, and what they feed to a hasher.
use Rattle.std.specs.Prelude.{Bool, ◌&&◌, ◌++◌, List}
use Rattle.std.specs.Cmp.Lexicographic.{pointwise}
use Rattle.std.specs.Hash as fed
use Rattle.std.specs.Hash.{HashWrites}
use Rattle.std.specs.List.{flat_map}
use Rattle.starlark_hash.specs.Hasher.{own_hash}
use Rattle.starlark_hash.specs.HashValue.{hash_number}

module _ {K V : Type 0} where
  -- whether two lists are as long and have equal keys and equal values, pair by pair
  abbrev pub same_ordered : (K → K → Bool) → (V → V → Bool) → List (K × V) → List (K × V) → Bool
  same_ordered key_eq value_eq = pointwise (λ p q. key_eq p.0 q.0 && value_eq p.1 q.1)

  -- what is written of a list: of each pair the number that its key has as a hash, and then what its value writes
  abbrev pub ordered_feed : (K → HashWrites) → (V → HashWrites) → List (K × V) → HashWrites
  ordered_feed key_feed value_feed = flat_map (λ p. fed.u32 (hash_number (own_hash key_feed p.0)) ++ value_feed p.1)
