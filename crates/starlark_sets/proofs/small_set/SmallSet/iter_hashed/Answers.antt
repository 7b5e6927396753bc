use Rattle.starlark_hash.proofs.Common.{arith, rules, common_steps}
use Rattle.std_collections.proofs.IterRuns.{shows_in_order, shows_in_reverse}
use Rattle.starlark_hash.specs.Unit.{deref_hashed}
use Rattle.starlark_sets.proofs.small_set.SmallSet.iter_hashed.Goals as goal

pub returns-clause-runs : goal.returns-clause-runs
returns-clause-runs g c = (search rules, first_of (search rules, grind (arith, common_steps)), shows_in_order deref_hashed, shows_in_reverse deref_hashed)
