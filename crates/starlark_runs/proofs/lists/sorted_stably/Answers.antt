use Rattle.starlark_hash.specs.Sort.{key_lt}
use Rattle.starlark_hash.proofs.SortingLemmas.{IsPermutation-sorted_by, sorted_by-sorted, sorted_by-stable, sorted_by-unique, key_lt-order}
use Rattle.starlark_runs.proofs.lists.sorted_stably.Goals as goal

pub returns-clause-ascends : goal.returns-clause-ascends
returns-clause-ascends g c = λ es. sorted_by-sorted (key_lt g.K.Ord.cmp) (key_lt-order g.met.K.Ord.total) es

pub returns-clause-rearranged : goal.returns-clause-rearranged
returns-clause-rearranged g c = λ es. IsPermutation-sorted_by (key_lt g.K.Ord.cmp) es

pub returns-clause-stable : goal.returns-clause-stable
returns-clause-stable g c = λ es. sorted_by-stable (key_lt g.K.Ord.cmp) (key_lt-order g.met.K.Ord.total) es

pub returns-clause-only : goal.returns-clause-only
returns-clause-only g c = λ es sorted up stable. sorted_by-unique (key_lt g.K.Ord.cmp) (key_lt-order g.met.K.Ord.total) es sorted up stable
