use Rattle.starlark_small.proofs.CallerLemmas.{callers}
use Rattle.starlark_uses.proofs.scores.note_any.Goals as goal

pub returns-clause-bounded : goal.returns-clause-bounded
returns-clause-bounded g c = search (callers, c.in_ok-insert.ensures, c.requires, g.met.K.Eq.laws)

pub returns-clause-score : goal.returns-clause-score
returns-clause-score g c = search (callers, c.in_ok-insert.ensures)
