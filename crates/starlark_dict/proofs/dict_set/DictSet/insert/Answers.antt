use Rattle.starlark_hash.proofs.Common.{Some, ap}
use Rattle.std_collections.proofs.SetKeys.{updates_seen}
use Rattle.starlark_dict.proofs.dict_set.DictSet.insert.Goals as goal
use Rattle.starlark_dict.proofs.dict_set.DictSet.insert.Goals.{in-Err, in-Ok}

pub returns-clause-updates : goal.returns-clause-updates
returns-clause-updates g c =
    let eq = g.T.PartialEq.eq in
    elim c.match-insert.branch [
      | in-Err w ↦ rw w.result-is tt
      | in-Ok w ↦ rw w.result-is (updates_seen c.self.inside.dict.entries (ap (λ s. s.keys) c.self.view_is) _ eq (eq c.args.element) (Some tt) w.in-Ok.ensures.updates)
    ]
