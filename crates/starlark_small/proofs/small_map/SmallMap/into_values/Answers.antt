use Rattle.starlark_hash.proofs.Common.{length-map, rules, subst}
use Rattle.starlark_hash.specs.Entries.{IsSingle}
use Rattle.starlark_small.specs.Map.{Map}
use Rattle.starlark_small.proofs.CallerIter.{values-found}
use Rattle.starlark_small.proofs.small_map.SmallMap.into_values.Goals as goal

pub returns-clause-runs : goal.returns-clause-runs
returns-clause-runs g c =
    let single = subst (λ (m : Map g.row.K.Denot g.row.V.Denot). IsSingle g.K.PartialEq.eq m.entries) c.self.view_is c.self.invariant.single in
    let found = values-found g.K.PartialEq.eq g.met.K.Eq.laws c.args.self.entries single c.into_values.result (search rules) in
    (search rules, search (rules, length-map), search rules, search rules, found)
