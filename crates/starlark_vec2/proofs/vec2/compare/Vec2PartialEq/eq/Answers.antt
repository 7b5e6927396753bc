use Rattle.starlark_hash.proofs.Common.{arith, nat_tests}
use Rattle.starlark_vec2.proofs.Pairs.{pointwise_pairs}
use Rattle.starlark_vec2.proofs.vec2.compare.Vec2PartialEq.eq.Goals as goal

pub returns-then-eq : goal.returns-then-eq
returns-then-eq g c = grind (arith, nat_tests, pointwise_pairs g.A.PartialEq.eq g.B.PartialEq.eq c.args.self.now.pairs c.args.other.now.pairs)

pub returns-else-eq : goal.returns-else-eq
returns-else-eq g c = grind (arith, nat_tests, pointwise_pairs g.A.PartialEq.eq g.B.PartialEq.eq c.args.self.now.pairs c.args.other.now.pairs)
