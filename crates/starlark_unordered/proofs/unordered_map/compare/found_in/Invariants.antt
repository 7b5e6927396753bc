use Rattle.starlark_hash.proofs.Common.{◌≡◌, length, list_all}
use Rattle.starlark_unordered.specs.Pairs.{has_equal, pairs_of}
use Rattle.starlark_unordered.proofs.unordered_map.compare.found_in.Given as goal

abbrev pub invariant-loop-key : goal.invariant-loop-key
invariant-loop-key g l = list_all (has_equal g.K.PartialEq.eq g.V.PartialEq.eq (pairs_of l.map)) l.pairs ≡ list_all (has_equal g.K.PartialEq.eq g.V.PartialEq.eq (pairs_of l.map)) l.initial.pairs

abbrev pub decreases-loop-key : goal.decreases-loop-key
decreases-loop-key g l = length l.pairs
