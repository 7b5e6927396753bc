use Rattle.starlark_hash.proofs.Common.{arith, common_steps}
use Rattle.starlark_small.proofs.CallerEntry.{enters-entry}
use Rattle.starlark_small.proofs.small_map.SmallMap.entry_hashed.Goals as goal

pub returns-in-Some-clause-enters : goal.returns-in-Some-clause-enters
returns-in-Some-clause-enters g c = enters-entry g.K.PartialEq.eq g.met.K.Eq.laws c.args.key c.args.self.now _ (grind (arith, common_steps))

pub returns-clause-enters : goal.returns-clause-enters
returns-clause-enters g c = enters-entry g.K.PartialEq.eq g.met.K.Eq.laws c.args.key c.args.self.now _ (grind (arith, common_steps))
