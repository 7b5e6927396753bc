use Rattle.std.proofs.Common.{refl}
use Rattle.starlark_columns.proofs.ItemsAtFront.{front_filled, front_taken}
use Rattle.starlark_columns.proofs.row.Row.item_mut.Goals as goal

pub get_mut-requires-clause-filled : goal.get_mut-requires-clause-filled
get_mut-requires-clause-filled g c = front_filled c.args.self.now.cells c.args.len c.requires.front c.args.index c.requires.within

pub returns : goal.returns
returns g c = let at = front_taken c.args.self.now.cells c.args.len c.requires.front c.args.index c.requires.within c.get_mut.result.now c.get_mut.ensures.value in
    ((refl {a = c.get_mut.result.ghost_name}, λ w. refl), record { writes_back = tt; value = at })
