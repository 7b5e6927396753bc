use Rattle.starlark_hash.proofs.Common.{arith, rules, common_steps}
use Rattle.std_collections.proofs.IterRuns.{gives_in_order, gives_in_reverse}
use Rattle.starlark_sets.proofs.small_set.SmallSet.into_iter_hashed.Goals as goal

pub returns-clause-runs : goal.returns-clause-runs
returns-clause-runs g c = (search rules, first_of (search rules, grind (arith, common_steps)), gives_in_order, gives_in_reverse)
