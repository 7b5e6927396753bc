use Rattle.starlark_hash.proofs.Common.{refl}
use Rattle.starlark_small.specs.MapEntry.{still_within}
use Rattle.starlark_small.proofs.CallerEntry.{puts-written, occupied_written}
use Rattle.starlark_small.proofs.entry.OccupiedEntry.as_key_and_mut_value.Goals as goal

pub invariant_of-self-lent : goal.invariant_of-self-lent
invariant_of-self-lent g c w = (still_within c.args.self.now w, tt)

pub returns : goal.returns
returns g c = ((refl, λ w. occupied_written c.args.self.now w _), record { writes_back = tt; pair = c.entry_mut.ensures.value; puts = puts-written c.args.self.now })
