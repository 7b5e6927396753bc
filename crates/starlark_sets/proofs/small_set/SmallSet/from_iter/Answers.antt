use Rattle.starlark_hash.proofs.Common.{◌≤◌, length, sym, subst}
use Rattle.starlark_small.specs.Collect.{Collects}
use Rattle.starlark_sets.specs.Collect.{own_element}
use Rattle.starlark_sets.proofs.Collecting.{collected, collects_alone, has_collected, length-collected}
use Rattle.starlark_sets.proofs.small_set.SmallSet.from_iter.Goals as goal

pub returns-clause-made : goal.returns-clause-made
returns-clause-made g c =
    let new = c.in_ok-from_iter.field-0 in let made = subst (g.I.IntoIterator.into_iter_gives c.args.iter) (sym c.new.ensures) c.into_iter.ensures.into_iter_gives in
    let collects : Collects g.T.PartialEq.eq (own_element g.T.Hash.hash_input) g.I.IntoIter.Iterator.next_gives g.I.IntoIterator.into_iter_gives g.I.IntoIter.Iterator.remaining c.args.iter new =
    collects_alone c.new.result made c.in_ok-from_iter.ensures.made.map in
    record { found = has_collected g.met.T.Eq.laws g.T.Hash.hash_input g.met.T.Hash.respects_eq new collects; set = collects; own = c.in_ok-from_iter.ensures.made.own }

pub returns-clause-most : goal.returns-clause-most
returns-clause-most g c =
    let new = c.in_ok-from_iter.field-0 in
    collected new (returns-clause-made g c).set (λ xs. length new.entries ≤ length xs) (λ xs is. length-collected g.T.PartialEq.eq (own_element g.T.Hash.hash_input) xs new.entries is)
