use Rattle.starlark_hash.proofs.Common.{rules}
use Rattle.starlark_small.proofs.CallerLookup.{is_some-found}
use Rattle.starlark_sets.proofs.Differences.{IsSingle-tail, passed}
use Rattle.starlark_sets.proofs.difference.next_lacking.Goals as goal

pub returns-then-not-contains_hashed-clause-single : goal.returns-then-not-contains_hashed-clause-single
returns-then-not-contains_hashed-clause-single g c = λ single.
    IsSingle-tail g.T.PartialEq.eq _ _ _ c.in-Some.ensures.steps (c.loop-element.invariant.2 single)

pub loop-element-preserved : goal.loop-element-preserved
loop-element-preserved g c =
    let inv = c.loop-element.invariant in
    let on = passed g.T.PartialEq.eq c.args.left.now _ _ _ c.args.other.now.entries c.in-Some.ensures.steps (search (rules, is_some-found)) (inv.0, inv.1) in
    (on.0, on.1, λ single. IsSingle-tail g.T.PartialEq.eq _ _ _ c.in-Some.ensures.steps (inv.2 single))
