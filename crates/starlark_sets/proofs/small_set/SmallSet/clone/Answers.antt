use Rattle.starlark_hash.proofs.Common.{refl}
use Rattle.starlark_sets.proofs.small_set.SmallSet.clone.Goals as goal

pub returns : goal.returns
returns g c = rw (← c.self.view_is) (record { clone = c.in_ok-clone.ensures.clone; succeeds = λ _. refl })
