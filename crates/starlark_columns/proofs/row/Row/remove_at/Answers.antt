use Rattle.std.proofs.Common.{arith, rules}
use Rattle.std.proofs.lemmas.Grind.{common_steps}
use Rattle.starlark_columns.proofs.ItemsAtFront.{front_filled, front_taken, rest_filled, front_removed}
use Rattle.starlark_columns.proofs.row.Row.remove_at.Goals as goal

pub take-item-requires-clause-filled : goal.take-item-requires-clause-filled
take-item-requires-clause-filled g c = front_filled c.args.self.now.cells c.args.len c.requires.front c.args.index c.requires.within

pub move_down-requires-clause-items : goal.move_down-requires-clause-items
move_down-requires-clause-items g c = rest_filled c.args.self.now.cells c.args.len c.requires.front c.args.index c.requires.within c.take-item.new.self.cells c.take-item.ensures.cells

pub returns : goal.returns
returns g c = let cs = c.args.self.now.cells in let lt = c.requires.within in let front = c.requires.front in let out = c.take-item.ensures in
    let is = front_removed cs c.args.len front c.args.index lt c.take-item.new.self.cells out.cells c.move_down.new.self.cells c.move_down.ensures.cells in
    record { taken = front_taken cs c.args.len front c.args.index lt c.take-item.result out.value; front = is.0; items = is.1; cells = grind (arith, common_steps); at = search rules }
