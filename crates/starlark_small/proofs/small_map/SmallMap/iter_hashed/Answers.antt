use Rattle.starlark_hash.proofs.Common.{rules}
use Rattle.starlark_small.proofs.CallerIter.{has-distinct_keys}
use Rattle.starlark_small.proofs.small_map.SmallMap.iter_hashed.Goals as goal

pub returns-clause-distinct : goal.returns-clause-distinct
returns-clause-distinct g c = has-distinct_keys g.K.PartialEq.eq c.args.self.now (search rules)
