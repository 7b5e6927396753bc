use Rattle.starlark_hash.proofs.Common.{refl}
use Rattle.starlark_dict.specs.Entry.{still_within}
use Rattle.starlark_dict.proofs.EntryLemmas.{occupied_written, puts-written}
use Rattle.starlark_dict.proofs.dict.entry.OccupiedEntry.get_mut.Goals as goal

pub invariant_of-self-lent : goal.invariant_of-self-lent
invariant_of-self-lent g c w = (still_within c.args.self.now w, tt)

pub returns : goal.returns
returns g c = ((refl, λ w. occupied_written c.args.self.now w _), record { writes_back = tt; value = c.value_at_mut.ensures.value; puts = puts-written c.args.self.now })
