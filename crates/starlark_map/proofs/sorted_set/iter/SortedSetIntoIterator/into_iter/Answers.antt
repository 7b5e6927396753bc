use Rattle.starlark_map.proofs.AscendingLists.{Ascends-strictly}
use Rattle.starlark_map.proofs.sorted_set.iter.SortedSetIntoIterator.into_iter.Goals as goal

pub returns-clause-strictly : goal.returns-clause-strictly
returns-clause-strictly g c =
    rw (← c.self.view_is) (Ascends-strictly g.met.T.Ord.total g.met.T.Ord.matches_eq g.met.T.Hash.respects_eq c.self.inside.inner.entries c.iter_hashed.ensures.single c.self.invariant)
