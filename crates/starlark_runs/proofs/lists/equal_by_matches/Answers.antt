use Rattle.starlark_runs.proofs.EqualityByMatches.{equal_iff_matches}
use Rattle.starlark_runs.proofs.lists.equal_by_matches.Goals as goal

pub returns : goal.returns
returns g c = λ ds es left right. equal_iff_matches g.K.PartialEq.eq g.V.PartialEq.eq g.met.K.Eq.laws ds es left right
