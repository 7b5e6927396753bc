use Rattle.starlark_small.proofs.CallerLemmas.{callers}
use Rattle.starlark_uses.proofs.scores.forget.Goals as goal

pub returns-clause-bounded : goal.returns-clause-bounded
returns-clause-bounded g c = search (callers, c.shift_remove.ensures, c.requires)

pub returns-clause-players : goal.returns-clause-players
returns-clause-players g c = search (callers, c.shift_remove.ensures)
