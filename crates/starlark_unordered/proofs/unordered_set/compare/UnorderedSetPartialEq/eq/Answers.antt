use Rattle.starlark_hash.proofs.Common.{arith, common_steps}
use Rattle.starlark_unordered.proofs.LookupAgreement.{found-equal}
use Rattle.starlark_unordered.proofs.unordered_set.compare.UnorderedSetPartialEq.eq.Goals as goal

pub returns-clause-agrees : goal.returns-clause-agrees
returns-clause-agrees g c = grind (arith, common_steps, found-equal g.T.PartialEq.eq g.met.T.Eq.laws)
