use Rattle.starlark_hash.proofs.Common.{length, ◌-◌}
use Rattle.starlark_vecmap.proofs.HashMatches.{Reached}
use Rattle.starlark_vecmap.proofs.columns.search_long.Given as goal

abbrev pub invariant-loop-index : goal.invariant-loop-index
invariant-loop-index g l = Reached l.fn.hash g.F.FnMut l.pairs l.hashes l.initial.accepts l.accepts l.i

abbrev pub decreases-loop-index : goal.decreases-loop-index
decreases-loop-index g l = length l.hashes - l.i
