use Rattle.starlark_hash.proofs.Common.{IsSortedWithin, is_lt}
use Rattle.starlark_vecmap.proofs.columns.ascend_one_by_one.Given as goal

abbrev pub invariant-loop-i : goal.invariant-loop-i
invariant-loop-i g l = IsSortedWithin (λ p q. is_lt (g.K.Ord.cmp p.0 q.0)) l.pairs l.fn.low l.i
