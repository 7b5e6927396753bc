use Rattle.starlark_map.proofs.AscendingKeys.{least_at}
use Rattle.starlark_map.proofs.AscendingLists.{Ascends-strictly}
use Rattle.starlark_map.proofs.sorted_set.SortedSet.get_index.Goals as goal

pub returns-clause-least : goal.returns-clause-least
returns-clause-least g c =
    rw (← c.self.view_is) (least_at g.met.T.Ord.total c.self.inside.inner.entries c.args.index c.get_index.result c.self.invariant c.get_index.ensures)

pub returns-clause-strictly : goal.returns-clause-strictly
returns-clause-strictly g c =
    rw (← c.self.view_is) (Ascends-strictly g.met.T.Ord.total g.met.T.Ord.matches_eq g.met.T.Hash.respects_eq c.self.inside.inner.entries c.iter_hashed.ensures.single c.self.invariant)
