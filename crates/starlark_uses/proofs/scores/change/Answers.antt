use Rattle.starlark_hash.proofs.Common.{◌≤◌}
use Rattle.starlark_small.proofs.CallerMembers.{All-values-writes}
use Rattle.starlark_uses.proofs.scores.change.Goals as goal

pub returns-in-Some-clause-bounded : goal.returns-in-Some-clause-bounded
returns-in-Some-clause-bounded c = All-values-writes _ _ _ _ (c.get_mut.follows.holds _).0 (λ score. score ≤ 100) c.requires.bounded c.requires.fits
