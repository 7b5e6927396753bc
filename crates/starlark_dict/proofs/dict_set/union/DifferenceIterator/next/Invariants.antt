use Rattle.starlark_hash.proofs.Common.{filter, length, not, ◌≡◌}
use Rattle.starlark_dict.specs.DictSet.{contains}
use Rattle.starlark_dict.proofs.dict_set.union.DifferenceIterator.next.Given as goal

abbrev pub invariant-loop-element : goal.invariant-loop-element
invariant-loop-element g l = filter (λ x. not (contains g.T.PartialEq.eq l.initial.self-inside.other.now x)) l.initial.self-inside.left ≡ filter (λ x. not (contains g.T.PartialEq.eq l.self-inside.other.now x)) l.self-inside.left

abbrev pub decreases-loop-element : goal.decreases-loop-element
decreases-loop-element g l = length l.self-inside.left
