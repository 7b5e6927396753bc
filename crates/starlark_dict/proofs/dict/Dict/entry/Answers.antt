use Rattle.starlark_hash.proofs.Common.{arith, common_steps}
use Rattle.starlark_dict.proofs.EntryLemmas.{enters-entry}
use Rattle.starlark_dict.proofs.dict.Dict.entry.Goals as goal

pub returns-in-Some-clause-enters : goal.returns-in-Some-clause-enters
returns-in-Some-clause-enters g c = enters-entry g.K.PartialEq.eq g.met.K.Eq.laws c.args.self.now c.len.ensures.unique c.args.key _ (grind (arith, common_steps))

pub returns-clause-enters : goal.returns-clause-enters
returns-clause-enters g c = enters-entry g.K.PartialEq.eq g.met.K.Eq.laws c.args.self.now c.len.ensures.unique c.args.key _ (grind (arith, common_steps))
