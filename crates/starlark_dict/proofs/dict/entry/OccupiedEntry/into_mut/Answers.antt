use Rattle.starlark_hash.proofs.Common.{refl}
use Rattle.starlark_dict.proofs.EntryLemmas.{puts-written}
use Rattle.starlark_dict.proofs.dict.entry.OccupiedEntry.into_mut.Goals as goal

pub returns : goal.returns
returns g c = (
  (refl {a = c.value_at_mut.result.ghost_name}, λ w. refl),
  record { writes_back = tt; value = c.value_at_mut.ensures.value; puts = puts-written c.args.self },
)
