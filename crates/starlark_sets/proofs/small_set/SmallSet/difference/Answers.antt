use Rattle.starlark_hash.proofs.Common.{◌≡◌, length, ap, arith, rules, deref}
use Rattle.std.proofs.iter.runs.Sources.{from_front}
use Rattle.starlark_sets.specs.Difference.{DifferenceSteps, difference_rest}
use Rattle.starlark_sets.proofs.Differences.{length-difference-le}
use Rattle.starlark_sets.proofs.Members.{members-difference}
use Rattle.starlark_sets.proofs.Unions.{IsSingle-difference}
use Rattle.starlark_sets.proofs.small_set.SmallSet.difference.Goals as goal

pub returns-clause-single : goal.returns-clause-single
returns-clause-single g c = rw (← c.self.view_is) (IsSingle-difference g.T.PartialEq.eq _ _ c.iter_hashed.ensures.single)

pub returns-clause-most : goal.returns-clause-most
returns-clause-most g c =
    let is : c.new.result ≡ record { left = c.args.self.now.entries; other = c.args.other.now.entries } = search rules in
    rw is (length-difference-le g.T.PartialEq.eq c.args.self.now.entries c.args.other.now.entries)

pub returns-clause-fits : goal.returns-clause-fits
returns-clause-fits g c =
    omega (arith, length-difference-le g.T.PartialEq.eq c.new.result.left c.new.result.other, ap (λ d. length d.left) c.new.ensures, ap length c.iter_hashed.ensures.entries, c.iter_hashed.ensures.runs.0)

pub returns-clause-runs : goal.returns-clause-runs
returns-clause-runs g c =
    let eq = g.T.PartialEq.eq in from_front (DifferenceSteps eq) deref (difference_rest eq) (λ s t h. ap length h.0.0) (λ s x t h. h.0)

pub returns-clause-members : goal.returns-clause-members
returns-clause-members g c own element =
    let is : c.new.result ≡ record { left = c.args.self.now.entries; other = c.args.other.now.entries } = search rules in
    rw is (members-difference g.T.PartialEq.eq g.met.T.Eq.laws g.T.Hash.hash_input g.met.T.Hash.respects_eq c.args.self.now.entries c.args.other.now.entries own element)
