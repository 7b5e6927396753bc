use Rattle.starlark_runs.proofs.OrderedEquality.{ordered_feed-same_ordered}
use Rattle.starlark_runs.proofs.lists.ordered_implies_one_feed.Goals as goal

pub returns : goal.returns
returns g c = λ ds es same. ordered_feed-same_ordered g.K.PartialEq.eq g.V.PartialEq.eq g.V.Hash.hash_input g.met.V.Hash.respects_eq ds es same
