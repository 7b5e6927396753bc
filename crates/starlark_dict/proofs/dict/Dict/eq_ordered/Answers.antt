use Rattle.starlark_hash.proofs.Common.{◌∙◌}
use Rattle.starlark_dict.proofs.Compared.{pairs-same_ordered}
use Rattle.starlark_dict.proofs.dict.Dict.eq_ordered.Goals as goal

pub returns : goal.returns
returns g c =
    rw (← c.self.view_is, ← c.other.view_is)
    (c.eq_ordered.ensures ∙ pairs-same_ordered g.K.PartialEq.eq g.K.Hash.hash_input g.met.K.Hash.respects_eq g.V.PartialEq.eq c.self.inside.map.entries c.other.inside.map.entries c.self.invariant c.other.invariant)
