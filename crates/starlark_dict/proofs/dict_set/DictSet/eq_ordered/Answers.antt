use Rattle.starlark_hash.proofs.Common.{◌∙◌}
use Rattle.std_collections.proofs.SetKeys.{eq_keys}
use Rattle.starlark_dict.proofs.dict_set.DictSet.eq_ordered.Goals as goal

pub returns : goal.returns
returns g c = rw (← c.self.view_is, ← c.other.view_is) (c.eq_ordered.ensures ∙ eq_keys g.T.PartialEq.eq c.self.inside.dict.entries c.other.inside.dict.entries)
