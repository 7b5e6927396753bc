use Rattle.starlark_hash.proofs.Common.{length, ap, arith, rules, deref}
use Rattle.std.proofs.iter.runs.Sources.{from_front}
use Rattle.starlark_sets.specs.Union.{UnionSteps, union_rest}
use Rattle.starlark_sets.proofs.Differences.{counts-union, length-union-le}
use Rattle.starlark_sets.proofs.Members.{members-union}
use Rattle.starlark_sets.proofs.Unions.{IsSingle-difference, IsSingle-union}
use Rattle.starlark_sets.proofs.small_set.SmallSet.union.Goals as goal

pub returns-clause-single : goal.returns-clause-single
returns-clause-single g c =
    let eq = g.T.PartialEq.eq in
    IsSingle-union eq g.met.T.Eq.laws _ _ c.entries-first.ensures.single (IsSingle-difference eq _ _ c.entries.ensures.single)

pub returns-clause-fits : goal.returns-clause-fits
returns-clause-fits g c =
    rw (c.new-2.ensures, c.new.ensures, c.entries-first.ensures.entries, c.entries.ensures.entries)
    (omega (arith, length-union-le g.T.PartialEq.eq c.args.self.now.entries c.args.other.now.entries c.args.self.now.entries, c.entries-first.ensures.few, c.entries.ensures.few))

pub returns-clause-count : goal.returns-clause-count
returns-clause-count g c =
    rw (c.new-2.ensures, c.new.ensures, c.entries-first.ensures.entries, c.entries.ensures.entries)
    (counts-union g.T.PartialEq.eq g.met.T.Eq.laws c.args.self.now.entries c.args.other.now.entries (search rules))

pub returns-clause-runs : goal.returns-clause-runs
returns-clause-runs g c =
    let eq = g.T.PartialEq.eq in from_front (UnionSteps eq) deref (union_rest eq) (λ s t h. ap length h.0.0) (λ s x t h. h.0)

pub returns-clause-members : goal.returns-clause-members
returns-clause-members g c mine theirs element =
    rw (c.new-2.ensures, c.new.ensures, c.entries-first.ensures.entries, c.entries.ensures.entries)
    (members-union g.T.PartialEq.eq g.met.T.Eq.laws g.T.Hash.hash_input g.met.T.Hash.respects_eq c.args.self.now.entries c.args.other.now.entries mine theirs element)
