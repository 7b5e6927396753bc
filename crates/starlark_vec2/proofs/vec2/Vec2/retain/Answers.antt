use Rattle.starlark_hash.proofs.Common.{take, ap, sym, subst}
use Rattle.starlark_hash.specs.Retain.{Retains}
use Rattle.starlark_vec2.specs.Retain.{CalledAtBoth}
use Rattle.starlark_vec2.proofs.Pairs.{zip-take}
use Rattle.starlark_vec2.proofs.TwoColumns.{both_relaid, both_moved}
use Rattle.starlark_vec2.proofs.vec2.Vec2.retain.Goals as goal

pub invariant_of-self : goal.invariant_of-self
invariant_of-self g c = both_relaid c.self.inside c.self.invariant c.sieve-kept.new.firsts c.sieve-kept.new.seconds

pub returns-clause-pairs : goal.returns-clause-pairs
returns-clause-pairs g c =
    let Keeps = Retains (CalledAtBoth g.F.FnMut) c.args.keep in
    let k = c.sieve-kept.result in
    subst (Keeps c.args.self.now.pairs) (sym (ap (λ v. v.pairs) c.truncate.ensures))
    (both_moved _ _ _ c.self.invariant.0 _ c.self.view_is _ _ _ _ c.items_mut.ensures.value c.items_mut-2.ensures.value c.sieve-kept.auto.firsts c.sieve-kept.auto.seconds (λ ps qs. Keeps ps (take k qs))
    (subst (Keeps _) (zip-take k c.sieve-kept.new.firsts c.sieve-kept.new.seconds) c.sieve-kept.ensures.pairs))
