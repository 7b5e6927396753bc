use Rattle.starlark_hash.specs.Sort.{key_lt}
use Rattle.starlark_hash.proofs.SortingLemmas.{sorted_by-twice, key_lt-order}
use Rattle.starlark_runs.proofs.lists.sorted_twice.Goals as goal

pub returns : goal.returns
returns g c = λ es. sorted_by-twice (key_lt g.K.Ord.cmp) (key_lt-order g.met.K.Ord.total) es
