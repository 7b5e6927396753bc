use Rattle.starlark_hash.proofs.Common.{◌++◌, length, map, IsPermutation}
use Rattle.starlark_unordered.specs.Pairs.{HasDistinctKeys}
use Rattle.starlark_unordered.proofs.into_hash_map.move_pairs.Given as goal

abbrev pub invariant-loop-key : goal.invariant-loop-key
invariant-loop-key g l = record {
  distinct : HasDistinctKeys g.K.PartialEq.eq (map (λ m. m.1) l.walk ++ l.moved.entries);
  same : IsPermutation (map (λ m. m.1) l.initial.walk ++ l.initial.moved.entries) (map (λ m. m.1) l.walk ++ l.moved.entries);
}

abbrev pub decreases-loop-key : goal.decreases-loop-key
decreases-loop-key g l = length l.walk
