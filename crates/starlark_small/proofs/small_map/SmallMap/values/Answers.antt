use Rattle.starlark_hash.proofs.Common.{length-map, rules}
use Rattle.starlark_small.proofs.CallerIter.{values-found}
use Rattle.starlark_small.proofs.small_map.SmallMap.values.Goals as goal

pub returns-clause-runs : goal.returns-clause-runs
returns-clause-runs g c =
    let found = values-found g.K.PartialEq.eq g.met.K.Eq.laws c.args.self.now.entries (search rules) c.values.result (search rules) in
    (search rules, search (rules, length-map), search rules, search rules, found)
