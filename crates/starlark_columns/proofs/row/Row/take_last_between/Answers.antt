use Rattle.std.proofs.Common.{◌+◌, refl, rules}
use Rattle.starlark_columns.proofs.ItemsBetween.{last_filled, last_taken_between}
use Rattle.starlark_columns.proofs.row.Row.take_last_between.Goals as goal

pub take-requires-clause-filled : goal.take-requires-clause-filled
take-requires-clause-filled g c = last_filled c.args.self.now.cells c.args.from (c.args.last + 1) c.requires.between c.requires.some c.args.last refl

pub returns : goal.returns
returns g c = let said = c.take.ensures in let cs = c.args.self.now.cells in
    let is = last_taken_between cs c.args.from (c.args.last + 1) c.requires.between c.requires.some c.args.last refl c.take.new.self.cells c.take.result said.cells said.value in
    record { between = is.0; items = is.1; cells = search rules; at = search rules }
