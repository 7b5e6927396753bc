use Rattle.starlark_hash.proofs.Common.{◌≤◌}
use Rattle.starlark_unordered.proofs.CallerMembers.{All-removes}
use Rattle.starlark_uses.proofs.scores.forget_unordered.Goals as goal

pub returns-clause-bounded : goal.returns-clause-bounded
returns-clause-bounded c = All-removes (λ p. p.1) _ c.args.scores.now c.remove.new.self c.remove.result c.remove.ensures.pairs c.remove.ensures.unchanged (λ score. score ≤ 100) c.requires.bounded
