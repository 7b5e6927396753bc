use Rattle.starlark_hash.proofs.Common.{length, ap, arith}
use Rattle.starlark_sets.proofs.Differences.{length-difference, length-difference-le}
use Rattle.starlark_map.specs.SortedUnion.{SortedUnion, rise_rest}
use Rattle.starlark_map.proofs.AscendingUnion.{length-rest}
use Rattle.starlark_map.proofs.union.SortedUnionIterator.size_hint.Goals as goal

pub returns-clause-lower : goal.returns-clause-lower
returns-clause-lower g c = λ _.
    let eq = g.T.PartialEq.eq in let cmp = g.T.Ord.cmp in let s = c.self.inside in
    let u : SortedUnion g.row.T.Denot = record { left = s.left; right = s.right; there = s.there.now.entries } in
    let single = length-difference eq g.met.T.Eq.laws s.right s.there.now.entries c.len-right.ensures.single in
    omega (arith, single, length-rest eq cmp u, ap (λ v. length (rise_rest eq cmp v)) c.self.view_is, c.saturating_add.ensures, c.saturating_sub.ensures)

pub returns-clause-upper : goal.returns-clause-upper
returns-clause-upper g c =
    let eq = g.T.PartialEq.eq in let cmp = g.T.Ord.cmp in let s = c.self.inside in
    let u : SortedUnion g.row.T.Denot = record { left = s.left; right = s.right; there = s.there.now.entries } in
    let few = length-difference-le eq s.right s.there.now.entries in
    grind (arith, few, length-rest eq cmp u, ap (λ v. length (rise_rest eq cmp v)) c.self.view_is, c.checked_add.ensures, c.len-left.ensures.number, c.len-right.ensures.number)
