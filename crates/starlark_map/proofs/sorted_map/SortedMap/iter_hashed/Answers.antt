use Rattle.starlark_map.proofs.AscendingLists.{Ascends-strictly}
use Rattle.starlark_map.proofs.sorted_map.SortedMap.iter_hashed.Goals as goal

pub returns-clause-strictly : goal.returns-clause-strictly
returns-clause-strictly g c =
    rw (← c.self.view_is) (Ascends-strictly g.met.K.Ord.total g.met.K.Ord.matches_eq g.met.K.Hash.respects_eq c.self.inside.map.entries c.iter_hashed.ensures.single c.self.invariant)
