use Rattle.std.proofs.Common.{◌+◌, refl, arith, rules}
use Rattle.starlark_columns.proofs.ItemsAtFront.{last_taken}
use Rattle.starlark_columns.proofs.row.Row.take_last.Goals as goal

pub returns : goal.returns
returns g c = let said = c.take.ensures in let is = last_taken c.args.self.now.cells (c.args.last + 1) c.requires.front c.args.last (omega arith) c.take.new.self.cells said.cells c.take.result refl said.value in
    record { front = is.0; items = is.1; cells = search rules; at = search rules }
