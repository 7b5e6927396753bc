use Rattle.starlark_hash.proofs.Common.{Some, arith, rules, common_steps}
use Rattle.starlark_hash.specs.Hasher.{own_hash}
use Rattle.starlark_sets.proofs.Callers.{passes-found_key}
use Rattle.starlark_sets.proofs.small_set.SmallSet.take.Goals as goal

pub returns-clause-equivalent : goal.returns-clause-equivalent
returns-clause-equivalent g c =
    passes-found_key (g.Q.Query.stands_for c.args.key) (own_hash g.Q.Hash.hash_input c.args.key) c.args.self.now.entries (Some _) (first_of (search rules, grind (arith, common_steps)))
