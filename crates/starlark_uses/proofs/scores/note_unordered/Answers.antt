use Rattle.starlark_unordered.proofs.CallerMembers.{members}
use Rattle.starlark_uses.proofs.scores.note_unordered.Goals as goal

pub returns-clause-bounded : goal.returns-clause-bounded
returns-clause-bounded c = search (members, c.in_ok-insert.ensures, c.requires)

pub returns-clause-score : goal.returns-clause-score
returns-clause-score c = search (members, c.in_ok-insert.ensures)
