use Rattle.starlark_hash.proofs.Common.{◌≡◌, ◌∷◌, true, subst, rules, arith, common_steps}
use Rattle.starlark_hash.specs.Sort.{Ascends}
use Rattle.starlark_map.specs.SortedUnion.{drop_while, comes_first, is_passed, shown_element}
use Rattle.starlark_map.proofs.UnionLookup.{Ascends-left}
use Rattle.starlark_map.proofs.AscendingUnion.{step-other, step-own, taken-first}
use Rattle.starlark_map.proofs.union.next_before.Goals as goal

pub returns-then-not-is_given : goal.returns-then-not-is_given
returns-then-not-is_given g c =
    let eq = g.T.PartialEq.eq in let cmp = g.T.Ord.cmp in
    let left = c.args.left.now in let there = c.args.there.now.entries in
    let h = c.in-Some.element in let right = c.take.new.self in
    let at : c.loop-element.right ≡ shown_element h ∷ right = taken-first c.loop-element.right right h c.take.result c.in-Some.ensures.first c.take.ensures in
    let found : drop_while (is_passed eq cmp left there) c.args.right.now ≡ shown_element h ∷ right = first_of (search rules, grind (arith, common_steps)) in
    let first : comes_first cmp left (shown_element h) ≡ true = first_of (search rules, grind (arith, common_steps)) in
    let up = Ascends-left cmp c.args.last left there c.requires.follows c.requires.ascends in
    record {
      steps = step-other eq g.met.T.Ord.total left c.args.right.now there right h up (subst (Ascends cmp) at c.first.ensures.ascends) found first;
    }

pub returns-then-not-stands_before : goal.returns-then-not-stands_before
returns-then-not-stands_before g c =
    let left = c.args.left.now in let there = c.args.there.now.entries in
    let up = Ascends-left g.T.Ord.cmp c.args.last left there c.requires.follows c.requires.ascends in
    record {
      steps = step-own g.T.PartialEq.eq g.met.T.Ord.total left c.args.right.now there c.loop-element.right up c.first.ensures.ascends
          (first_of (search rules, grind (arith, common_steps))) (first_of (search rules, grind (arith, common_steps)));
    }

pub returns : goal.returns
returns g c =
    let left = c.args.left.now in let there = c.args.there.now.entries in
    let up = Ascends-left g.T.Ord.cmp c.args.last left there c.requires.follows c.requires.ascends in
    record {
      steps = step-own g.T.PartialEq.eq g.met.T.Ord.total left c.args.right.now there c.loop-element.right up c.first.ensures.ascends
          (first_of (search rules, grind (arith, common_steps))) (first_of (search rules, grind (arith, common_steps)));
    }
