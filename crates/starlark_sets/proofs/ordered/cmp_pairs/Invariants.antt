use Rattle.starlark_hash.proofs.Common.{◌≡◌, length}
use Rattle.std.specs.Cmp.Lexicographic.{slice_cmp}
use Rattle.starlark_sets.specs.Compare.{pair_cmp}
use Rattle.starlark_sets.proofs.ordered.cmp_pairs.Given as goal

abbrev pub invariant-loop-key : goal.invariant-loop-key
invariant-loop-key g l = slice_cmp (pair_cmp g.K.Ord.cmp g.V.Ord.cmp) l.left l.right ≡ slice_cmp (pair_cmp g.K.Ord.cmp g.V.Ord.cmp) l.initial.left l.initial.right

abbrev pub decreases-loop-key : goal.decreases-loop-key
decreases-loop-key g l = length l.left
