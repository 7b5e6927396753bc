use Rattle.starlark_hash.proofs.Common.{◌<◌, ◌+◌, ◌-◌, length, IsSortedWithin, is_lt}
use Rattle.starlark_vecmap.proofs.columns.keys_ascend.Given as goal

abbrev pub invariant-loop-last : goal.invariant-loop-last
invariant-loop-last g l =
    record {
      within : l.last < length l.pairs;
      ascend : IsSortedWithin (λ p q. is_lt (g.K.Ord.cmp p.0 q.0)) l.pairs 0 (l.last + 1);
    }

abbrev pub decreases-loop-last : goal.decreases-loop-last
decreases-loop-last g l = length l.pairs - l.last
