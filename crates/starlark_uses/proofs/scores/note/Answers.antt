use Rattle.std.proofs.lemmas.Map.Views.{exact_unsigned_eq}
use Rattle.starlark_small.proofs.CallerLemmas.{callers}
use Rattle.starlark_small.proofs.CallerMembers.{Contains-keys-inserts, Contains-pairs-inserts}
use Rattle.starlark_uses.proofs.scores.note.Goals as goal

pub returns-clause-bounded : goal.returns-clause-bounded
returns-clause-bounded c = search (callers, c.in_ok-insert.ensures, c.requires)

pub returns-clause-score : goal.returns-clause-score
returns-clause-score c = search (callers, c.in_ok-insert.ensures)

pub returns-clause-player : goal.returns-clause-player
returns-clause-player c = Contains-keys-inserts c.in_ok-insert.ensures.inserts exact_unsigned_eq

pub returns-clause-pair : goal.returns-clause-pair
returns-clause-pair c = Contains-pairs-inserts c.in_ok-insert.ensures.inserts exact_unsigned_eq
