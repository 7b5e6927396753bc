use Rattle.starlark_columns.proofs.ItemsAtFront.{written_front}
use Rattle.starlark_columns.proofs.row.Row.turn_round.Goals as goal

pub returns-clause-front : goal.returns-clause-front
returns-clause-front g c = written_front c.args.self.now.cells c.args.len c.requires.front c.reverse.new.self
