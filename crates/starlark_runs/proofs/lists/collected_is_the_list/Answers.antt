use Rattle.starlark_hash.proofs.Common.{[]}
use Rattle.starlark_runs.proofs.EntryCollection.{insert_all-single}
use Rattle.starlark_runs.proofs.lists.collected_is_the_list.Goals as goal

pub returns : goal.returns
returns g c = λ es single. insert_all-single g.K.PartialEq.eq g.met.K.Eq.laws [] es single
