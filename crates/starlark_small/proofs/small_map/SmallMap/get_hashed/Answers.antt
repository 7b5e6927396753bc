use Rattle.starlark_hash.proofs.Common.{Some, rules}
use Rattle.starlark_hash.specs.HashValue.{hash_of, key_of}
use Rattle.starlark_hash.specs.Entries.{position_of}
use Rattle.starlark_small.proofs.CallerLookup.{value-among}
use Rattle.starlark_small.proofs.small_map.SmallMap.get_hashed.Goals as goal

pub returns-clause-member : goal.returns-clause-member
returns-clause-member g c = value-among c.args.self.now.entries (position_of (hash_of c.args.key) (g.Q.Query.stands_for (key_of c.args.key)) c.args.self.now.entries) (Some c.get_unchecked.result.1.now) (search rules)
