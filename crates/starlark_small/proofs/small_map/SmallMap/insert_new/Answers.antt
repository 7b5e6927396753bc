use mathlib.Core.Option.{some}
use Rattle.starlark_hash.proofs.Common.{refl}
use Rattle.starlark_small.proofs.Inserted.{inserted_written, value_inserted}
use Rattle.starlark_small.proofs.small_map.SmallMap.insert_new.Goals as goal

pub returns-in-Ok : goal.returns-in-Ok
returns-in-Ok g c =
    let old = c.args.self.now in
    let new = c.push.new.self in
    let i = c.in-Ok.ensures.index in
    let put = c.in-Ok.ensures.inserted in (
      (refl {a = some c.value_at_mut.result.ghost_name}, λ w. inserted_written old new c.args.key c.args.value c.in-Ok.index i put w, tt),
      assumption (value_inserted old new c.args.key c.args.value c.in-Ok.index i put c.value_at_mut.result.now c.value_at_mut.ensures.value),
    )
