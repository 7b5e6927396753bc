use Rattle.starlark_runs.proofs.OrderedEquality.{same_entries-same_ordered}
use Rattle.starlark_runs.proofs.lists.ordered_implies_equal.Goals as goal

pub returns : goal.returns
returns g c = λ ds es same. same_entries-same_ordered g.K.PartialEq.eq g.V.PartialEq.eq g.met.K.Eq.laws ds es same
