use Rattle.starlark_hash.proofs.Common.{subst, sym, ◌∙◌}
use Rattle.starlark_dict.proofs.Gathered.{gathered}
use Rattle.starlark_dict.proofs.dict_set.collect.DictSetFromIterator.from_iter.Goals as goal

pub returns-clause-ran : goal.returns-clause-ran
returns-clause-ran g c =
    let e = c.in_ok-dict.ensures.ran in
    let made = subst (g.I.IntoIterator.into_iter_gives c.args.iter) (sym (e.2 ∙ c.new.ensures)) c.into_iter.ensures.into_iter_gives in
    (gathered g.I.IntoIter.Iterator.next_gives g.T.PartialEq.eq g.met.T.Eq.laws g.I.IntoIterator.into_iter_gives c.args.iter e.0 made e.1 e.3 c.in_ok-dict.dict e.4 e.5).0

pub returns-clause-members : goal.returns-clause-members
returns-clause-members g c =
    let e = c.in_ok-dict.ensures.ran in
    let made = subst (g.I.IntoIterator.into_iter_gives c.args.iter) (sym (e.2 ∙ c.new.ensures)) c.into_iter.ensures.into_iter_gives in
    (gathered g.I.IntoIter.Iterator.next_gives g.T.PartialEq.eq g.met.T.Eq.laws g.I.IntoIterator.into_iter_gives c.args.iter e.0 made e.1 e.3 c.in_ok-dict.dict e.4 e.5).1
