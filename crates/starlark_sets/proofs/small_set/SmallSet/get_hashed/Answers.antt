use Rattle.starlark_hash.proofs.Common.{Some, arith, rules, common_steps}
use Rattle.starlark_hash.specs.HashValue.{hash_of, key_of}
use Rattle.starlark_sets.proofs.Callers.{passes-found_key}
use Rattle.starlark_sets.proofs.small_set.SmallSet.get_hashed.Goals as goal

pub returns-clause-equivalent : goal.returns-clause-equivalent
returns-clause-equivalent g c =
    passes-found_key (g.Q.Query.stands_for (key_of c.args.value)) (hash_of c.args.value) c.args.self.now.entries (Some _) (first_of (search rules, grind (arith, common_steps)))
