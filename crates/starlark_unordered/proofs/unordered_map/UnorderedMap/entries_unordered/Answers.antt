use Rattle.starlark_hash.proofs.Common.{arith, rules, common_steps, deref_pair}
use Rattle.starlark_unordered.proofs.Keys.{distinct_pairs}
use Rattle.starlark_unordered.proofs.IteratorRuns.{shows_in_order}
use Rattle.starlark_unordered.proofs.unordered_map.UnorderedMap.entries_unordered.Goals as goal

pub returns : goal.returns
returns g c =
    let distinct = rw c.self.view_is at (distinct_pairs _ _ _ c.self.invariant) in
    let runs = shows_in_order (deref_pair {K = g.row.K.Denot} {X = g.row.V.Denot}) in
    first_of (search (rules, distinct, runs), grind (arith, common_steps, distinct, runs))
