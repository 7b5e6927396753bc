use Rattle.std.proofs.Common.{rules}
use Rattle.starlark_columns.proofs.ItemsAtFront.{front_pushed}
use Rattle.starlark_columns.proofs.row.Row.push_last.Goals as goal

pub returns : goal.returns
returns g c = let is = front_pushed c.args.self.now.cells c.args.len c.requires.front c.args.item c.requires.room in let e = c.write.ensures.cells in
    record { front = rw e is.0; items = rw e is.1; cells = search rules; at = search rules }
