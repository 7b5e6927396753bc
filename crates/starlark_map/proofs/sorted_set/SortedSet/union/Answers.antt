use Rattle.starlark_hash.proofs.Common.{◌≡◌, length, ap, refl, rules, arith, deref}
use Rattle.std.proofs.iter.runs.Sources.{from_front}
use Rattle.starlark_sets.proofs.Differences.{length-difference-le}
use Rattle.starlark_sets.specs.Union.{union}
use Rattle.starlark_map.specs.SortedUnion.{RiseSteps, rise, rise_rest}
use Rattle.starlark_map.proofs.AscendingLists.{Ascends-strictly, sorted_ascends}
use Rattle.starlark_map.proofs.AscendingUnion.{gives-rise, length-rest, rise-own, rise-single}
use Rattle.starlark_map.proofs.sorted_set.SortedSet.union.Goals as goal

pub returns-clause-single : goal.returns-clause-single
returns-clause-single g c =
    rise-single g.T.PartialEq.eq g.T.Ord.cmp c.args.self.now.entries c.args.other.now.entries g.met.T.Eq.laws (search rules) (search rules)

pub returns-clause-ascends : goal.returns-clause-ascends
returns-clause-ascends g c =
    let eq = g.T.PartialEq.eq in let cmp = g.T.Ord.cmp in let es = c.args.self.now.entries in let fs = c.args.other.now.entries in
    sorted_ascends cmp g.met.T.Ord.total (union eq es fs) (rise eq cmp es fs) refl

pub returns-clause-strictly : goal.returns-clause-strictly
returns-clause-strictly g c = λ first second.
    let eq = g.T.PartialEq.eq in let cmp = g.T.Ord.cmp in let es = c.args.self.now.entries in let fs = c.args.other.now.entries in
    Ascends-strictly g.met.T.Ord.total g.met.T.Ord.matches_eq g.met.T.Hash.respects_eq (rise eq cmp es fs) (returns-clause-single g c) (returns-clause-ascends g c)
    (rise-own eq cmp es fs g.T.Hash.hash_input first second)

pub returns-clause-fits : goal.returns-clause-fits
returns-clause-fits g c =
    let eq = g.T.PartialEq.eq in let cmp = g.T.Ord.cmp in
    let there = c.self.inside.inner.entries in
    let rest = length-rest eq cmp (record { left = c.ahead.result; right = c.ahead-2.result; there = there }) in
    rw c.new.ensures (omega (arith, rest, length-difference-le eq c.ahead-2.result there, ap length c.ahead.ensures.elements, ap length c.ahead-2.ensures.elements))

pub returns-clause-gives : goal.returns-clause-gives
returns-clause-gives g c =
    let eq = g.T.PartialEq.eq in let cmp = g.T.Ord.cmp in
    let es = c.args.self.now.entries in let fs = c.args.other.now.entries in
    let is : c.new.result ≡ record { left = es; right = fs; there = es } = search rules in
    rw is (gives-rise eq g.met.T.Ord.total g.met.T.Eq.laws es fs (search rules) (returns-clause-ascends g c))

pub returns-clause-runs : goal.returns-clause-runs
returns-clause-runs g c =
    let eq = g.T.PartialEq.eq in let cmp = g.T.Ord.cmp in from_front (RiseSteps eq cmp) deref (rise_rest eq cmp) (λ s t h. ap length h.0.0) (λ s x t h. h.0)
