use Rattle.starlark_small.proofs.CallerLemmas.{callers}
use Rattle.starlark_uses.proofs.scores.forget_first.Goals as goal

pub returns-clause-bounded : goal.returns-clause-bounded
returns-clause-bounded c = search (callers, c.shift_remove_index.ensures, c.requires)
