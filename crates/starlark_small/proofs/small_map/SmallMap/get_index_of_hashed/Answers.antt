use Rattle.starlark_hash.proofs.Common.{rules}
use Rattle.starlark_hash.specs.HashValue.{hash_of, key_of}
use Rattle.starlark_small.proofs.CallerLookup.{names-index}
use Rattle.starlark_small.proofs.small_map.SmallMap.get_index_of_hashed.Goals as goal

pub returns-clause-names : goal.returns-clause-names
returns-clause-names g c = names-index (g.Q.Query.stands_for (key_of c.args.key)) (hash_of c.args.key) c.args.self.now c.position_of.result (search rules)
