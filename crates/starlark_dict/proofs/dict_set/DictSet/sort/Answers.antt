use Rattle.starlark_hash.proofs.Common.{refl}
use Rattle.std_collections.proofs.SetKeys.{IsReordered-seen}
use Rattle.std_collections.specs.Layout.HashSet.{key_set}
use Rattle.starlark_dict.proofs.dict_set.DictSet.sort.Goals as goal

pub returns-clause-reordered : goal.returns-clause-reordered
returns-clause-reordered g c = rw (← c.self.view_is) (IsReordered-seen g.T.PartialEq.eq c.self.inside.dict c.sort_keys.new.self (key_set c.self.inside.dict) refl c.sort_keys.ensures.reordered)
