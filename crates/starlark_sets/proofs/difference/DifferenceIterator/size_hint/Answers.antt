use Rattle.starlark_hash.proofs.Common.{length, ap, arith}
use Rattle.starlark_sets.specs.Difference.{difference_rest}
use Rattle.starlark_sets.proofs.Differences.{length-difference, length-difference-le}
use Rattle.starlark_sets.proofs.difference.DifferenceIterator.size_hint.Goals as goal

pub returns-clause-lower : goal.returns-clause-lower
returns-clause-lower g c = λ _.
    let eq = g.T.PartialEq.eq in let s = c.self.inside in
    omega (arith, length-difference eq g.met.T.Eq.laws s.left s.other.now.entries c.self.invariant, ap (λ d. length (difference_rest eq d)) c.self.view_is)

pub returns-clause-upper : goal.returns-clause-upper
returns-clause-upper g c =
    let eq = g.T.PartialEq.eq in let s = c.self.inside in
    (tt, omega (arith, length-difference-le eq s.left s.other.now.entries, ap (λ d. length (difference_rest eq d)) c.self.view_is))
