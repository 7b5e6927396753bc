use Rattle.starlark_hash.proofs.Common.{sym, subst}
use Rattle.starlark_sets.specs.Collect.{own_element}
use Rattle.starlark_small.specs.Collect.{Extends}
use Rattle.starlark_sets.proofs.Collecting.{extended_where, extends_alone, has_extended}
use Rattle.starlark_sets.proofs.small_set.SmallSet.extend.Goals as goal

pub returns : goal.returns
returns g c =
    let takes = c.extend.ensures in let old = c.self.inside.map in let new = c.extend.new.self in
    let made = subst (g.I.IntoIterator.into_iter_gives c.args.iter) (sym c.new.ensures) c.into_iter.ensures.into_iter_gives in
    let extends : Extends g.T.PartialEq.eq (own_element g.T.Hash.hash_input) g.I.IntoIter.Iterator.next_gives g.I.IntoIterator.into_iter_gives c.args.iter old.entries new.entries c.extend.result =
    extends_alone c.new.result made takes.entries in
    rw (← c.self.view_is) (record {
      found = has_extended g.met.T.Eq.laws g.T.Hash.hash_input g.met.T.Hash.respects_eq c.extend.result old new extends;
      entries = extends;
      stays = takes.stays;
      longer = takes.longer;
      memory = extended_where _ _ old new c.extend.result (λ fits it is. fits it (subst (g.I.IntoIterator.into_iter_gives c.args.iter) (sym is) made)) takes.memory;
      left = (takes.left.0, subst (g.I.IntoIterator.into_iter_gives c.args.iter) (sym takes.left.1) made, takes.left.2);
      own = takes.own;
    })
