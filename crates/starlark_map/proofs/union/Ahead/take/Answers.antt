use Rattle.starlark_hash.proofs.Common.{◌≡◌, ◌∷◌, length, ap, sym, subst, arith}
use Rattle.starlark_hash.specs.Entries.{IsSingle}
use Rattle.starlark_hash.specs.Sort.{Ascends}
use Rattle.starlark_sets.proofs.Differences.{IsSingle-tail}
use Rattle.starlark_map.specs.SortedUnion.{ahead, elements_under, shown_element}
use Rattle.starlark_map.proofs.AscendingKeys.{Ascends-tail}
use Rattle.starlark_map.proofs.AscendingUnion.{ahead-of}
use Rattle.starlark_map.proofs.union.Ahead.take.Goals as goal

pub invariant_of-self : goal.invariant_of-self
invariant_of-self g c =
    let eq = g.T.PartialEq.eq in let cmp = g.T.Ord.cmp in let s = c.self.inside in
    let h = shown_element c.in_ok-first.first in
    let at : ahead s.first s.rest ≡ h ∷ elements_under s.rest = ap (λ o. ahead o s.rest) c.in_ok-first.was in
    let same = sym (ahead-of s.rest c.next-self-inside.new.self c.next-self-inside.result c.next-self-inside.ensures.steps) in (
      omega (arith, ap length same, ap length at, c.self.invariant.0),
      subst (Ascends cmp) same (Ascends-tail cmp h _ (subst (Ascends cmp) at c.self.invariant.1)),
      subst (IsSingle eq) same (IsSingle-tail eq _ h _ at c.self.invariant.2),
    )
