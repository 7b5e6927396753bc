use Rattle.starlark_map.proofs.AscendingKeys.{along_from}
use Rattle.starlark_map.proofs.AscendingLists.{Ascends-from_strictly}
use Rattle.starlark_map.proofs.AscendingInsertions.{extended, insert_all-strictly}
use Rattle.starlark_map.proofs.sorted_set.SortedSet.from_sorted_vec.Goals as goal

pub returns-clause-entries : goal.returns-clause-entries
returns-clause-entries g c =
    let put = c.in-Ok-extend.ensures.entries in
    extended g.T.PartialEq.eq g.T.Hash.hash_input put.it c.args.vec put.inserts.items c.in-Ok.inner.entries c.extend.new.self.entries put.made.0 put.made.1 put.inserts.ended c.in-Ok.ensures.empty.entries put.inserts.entries

pub returns-clause-strictly : goal.returns-clause-strictly
returns-clause-strictly g c = rw (returns-clause-entries g c) (insert_all-strictly g.met.T.Ord.total g.met.T.Ord.matches_eq g.met.T.Hash.respects_eq c.args.vec c.iter.ensures.ascends)

pub invariant_of-result : goal.invariant_of-result
invariant_of-result g c = Ascends-from_strictly g.T.Ord.cmp g.met.T.Ord.total c.extend.new.self.entries (returns-clause-strictly g c)

pub returns-clause-along : goal.returns-clause-along
returns-clause-along g c = along_from g.met.T.Ord.total c.extend.new.self.entries (invariant_of-result g c)
