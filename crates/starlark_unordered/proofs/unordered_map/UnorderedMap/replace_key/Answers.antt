use Rattle.starlark_unordered.proofs.Keys.{keyed-with_key}
use Rattle.starlark_unordered.proofs.unordered_map.UnorderedMap.replace_key.Goals as goal

pub invariant_of-self : goal.invariant_of-self
invariant_of-self g c =
    keyed-with_key g.K.PartialEq.eq g.K.Hash.hash_input g.met.K.Eq.laws g.met.K.Hash.respects_eq c.self.inside.table c.args.slot c.get_unchecked_mut-pair.result.now c.args.key c.replace.new.dest c.replace.ensures.after
    c.get_unchecked_mut-pair.ensures.value (rw c.self.view_is c.requires.equal) c.self.invariant
