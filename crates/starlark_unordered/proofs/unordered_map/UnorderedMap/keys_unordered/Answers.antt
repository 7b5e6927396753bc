use Rattle.starlark_hash.proofs.Common.{rules, deref}
use Rattle.starlark_unordered.proofs.IteratorRuns.{shows_in_order}
use Rattle.starlark_unordered.proofs.unordered_map.UnorderedMap.keys_unordered.Goals as goal

pub returns : goal.returns
returns g c = search (rules, shows_in_order {X = g.row.K.Denot} deref)
