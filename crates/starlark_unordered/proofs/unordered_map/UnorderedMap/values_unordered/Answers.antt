use Rattle.starlark_hash.proofs.Common.{rules, deref}
use Rattle.starlark_unordered.specs.Pairs.{pairs_of}
use Rattle.starlark_unordered.proofs.CallerLookup.{values-found}
use Rattle.starlark_unordered.proofs.IteratorRuns.{shows_in_order}
use Rattle.starlark_unordered.proofs.unordered_map.UnorderedMap.values_unordered.Goals as goal

pub returns : goal.returns
returns g c =
    let found = values-found g.K.PartialEq.eq g.met.K.Eq.laws (pairs_of c.args.self.now) c.entries_unordered.ensures.distinct c.new.result in
    search (rules, shows_in_order {X = g.row.V.Denot} deref, found)
