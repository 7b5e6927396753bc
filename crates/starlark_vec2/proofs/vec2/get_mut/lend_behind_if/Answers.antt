use Rattle.starlark_hash.proofs.Common.{refl}
use Rattle.starlark_columns.proofs.ItemsAtFront.{front_filled, front_taken}
use Rattle.starlark_vec2.proofs.vec2.get_mut.lend_behind_if.Goals as goal

pub get_mut-requires-clause-filled : goal.get_mut-requires-clause-filled
get_mut-requires-clause-filled g c = front_filled _ _ c.requires.front _ c.if-index-len.true

pub returns-then-index-len : goal.returns-then-index-len
returns-then-index-len g c = (refl, record { writes_back = tt; value = front_taken _ _ c.requires.front _ c.if-index-len.true _ c.get_mut.ensures.value })
