use Rattle.starlark_map.proofs.AscendingKeys.{ascends_along}
use Rattle.starlark_map.proofs.sorted_map.SortedMap.keys.Goals as goal

pub returns-clause-along : goal.returns-clause-along
returns-clause-along g c = ascends_along g.met.K.Ord.total c.self.inside.map.entries c.keys.result c.keys.ensures.keys c.self.invariant
