use Rattle.starlark_hash.proofs.Common.{Ok}
use Rattle.starlark_unordered.proofs.Callers.{adds_pair}
use Rattle.starlark_unordered.proofs.Keys.{keyed-inserted}
use Rattle.starlark_unordered.proofs.unordered_map.UnorderedMap.insert_at.Goals as goal

pub invariant_of-self : goal.invariant_of-self
invariant_of-self g c =
    keyed-inserted g.K.PartialEq.eq g.K.Hash.hash_input g.met.K.Eq.laws {E = Unit {0}} (Ok c.args.slot) _ (c.args.key, c.args.value) c.self.inside.table c.insert_at.new.self
    c.insert_at.ensures.added tt (cc c.requires.own) (rw c.self.view_is c.requires.lacking) c.self.invariant

pub returns-clause-adds : goal.returns-clause-adds
returns-clause-adds g c =
    adds_pair _ g.met.K.Eq.laws g.K.Hash.hash_input _ _ _ _ _ (rw c.self.view_is at c.insert_at.ensures.added) c.requires.lacking (invariant_of-self g c)
