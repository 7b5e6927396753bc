use Rattle.std.proofs.Common.{rules}
use Rattle.starlark_columns.proofs.ItemsBetween.{first_taken}
use Rattle.starlark_columns.proofs.row.Row.take_first_between.Goals as goal

pub returns : goal.returns
returns g c = let said = c.take.ensures in let is = first_taken c.args.self.now.cells c.args.from c.args.to c.requires.between c.requires.some c.take.new.self.cells c.take.result said.cells said.value in
    record { between = is.0; items = is.1; cells = search rules; at = search rules }
