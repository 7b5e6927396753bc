use Rattle.starlark_unordered.proofs.Keys.{keyed-with_item}
use Rattle.starlark_unordered.proofs.unordered_map.UnorderedMap.pair_at_mut.Goals as goal

pub invariant_of-self-lent : goal.invariant_of-self-lent
invariant_of-self-lent g c w = rw (keyed-with_item c.self.inside.table c.args.slot c.get_unchecked_mut-pair.result.now w c.get_unchecked_mut-pair.ensures.value) c.self.invariant
