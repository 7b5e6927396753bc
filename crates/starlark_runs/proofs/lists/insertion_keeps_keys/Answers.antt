use Rattle.starlark_hash.specs.Entries.{match_of}
use Rattle.starlark_runs.proofs.InsertionRoom.{keys_of-placed}
use Rattle.starlark_runs.proofs.lists.insertion_keeps_keys.Goals as goal

pub returns : goal.returns
returns g c = λ es key value there. keys_of-placed es key value (match_of g.K.PartialEq.eq es key) there
