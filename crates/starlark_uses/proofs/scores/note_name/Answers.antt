use Rattle.starlark_small.proofs.CallerLemmas.{callers}
use Rattle.starlark_uses.proofs.scores.note_name.Goals as goal

pub returns-clause-bounded : goal.returns-clause-bounded
returns-clause-bounded c = search (callers, c.in_ok-insert.ensures, c.requires)

pub returns-clause-named : goal.returns-clause-named
returns-clause-named c = search (callers, c.in_ok-insert.ensures, c.requires)

pub returns-clause-score : goal.returns-clause-score
returns-clause-score c = search (callers, c.in_ok-insert.ensures)
