use Rattle.starlark_columns.proofs.ItemsAtFront.{front_filled, front_taken}
use Rattle.starlark_columns.proofs.row.Row.item.Goals as goal

pub get-requires-clause-filled : goal.get-requires-clause-filled
get-requires-clause-filled g c = front_filled c.args.self.now.cells c.args.len c.requires.front c.args.index c.requires.within

pub returns : goal.returns
returns g c = front_taken c.args.self.now.cells c.args.len c.requires.front c.args.index c.requires.within c.get.result.now c.get.ensures
