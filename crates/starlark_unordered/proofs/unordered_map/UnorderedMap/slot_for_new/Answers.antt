use Rattle.starlark_unordered.proofs.Keys.{none_under}
use Rattle.starlark_unordered.proofs.unordered_map.UnorderedMap.slot_for_new.Goals as goal

pub returns-clause-lacking : goal.returns-clause-lacking
returns-clause-lacking g c =
    rw c.self.view_is at (none_under _ _ g.met.K.Eq.laws _ (g.met.Q.Query.respects_eq c.args.query) c.vacancy.result _ c.self.inside.table c.self.invariant
    (λ k does. cc (c.requires, g.met.Q.HashQuery.feeds_alike c.args.query k does)) c.vacancy.ensures.none)
