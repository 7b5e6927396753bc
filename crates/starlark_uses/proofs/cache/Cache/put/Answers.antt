use Rattle.starlark_hash.proofs.Common.{subst}
use Rattle.starlark_uses.specs.Cache.{Caches}
use Rattle.starlark_uses.proofs.CacheLemmas.{caches}
use Rattle.starlark_uses.proofs.cache.Cache.put.Goals as goal

pub returns-clause-kept : goal.returns-clause-kept
returns-clause-kept g c =
    subst (λ old. Caches old c.insert.new.self c.args.set c.args.answer) c.self.view_is
    (caches c.self.inside.answers c.insert.new.self c.args.set c.args.answer c.in_ok-had.ensures.updates)
