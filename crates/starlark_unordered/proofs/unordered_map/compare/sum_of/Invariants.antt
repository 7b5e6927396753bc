use Rattle.starlark_hash.proofs.Common.{◌≡◌, ◌+◌, ◌%◌, ◌^◌, length}
use Rattle.starlark_unordered.specs.Pairs.{hash_sum}
use Rattle.starlark_unordered.proofs.unordered_map.compare.sum_of.Given as goal

abbrev pub invariant-loop-key : goal.invariant-loop-key
invariant-loop-key g l = (l.sum + hash_sum g.K.Hash.hash_input g.V.Hash.hash_input l.pairs) % 2 ^ 64 ≡ hash_sum g.K.Hash.hash_input g.V.Hash.hash_input l.initial.pairs % 2 ^ 64

abbrev pub decreases-loop-key : goal.decreases-loop-key
decreases-loop-key g l = length l.pairs
