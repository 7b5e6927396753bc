use Rattle.starlark_hash.proofs.Common.{None, ap}
use Rattle.std_collections.proofs.SetKeys.{updates_seen}
use Rattle.starlark_dict.proofs.dict_set.DictSet.take.Goals as goal

pub returns-clause-updates : goal.returns-clause-updates
returns-clause-updates g c = updates_seen c.self.inside.dict.entries (ap (λ s. s.keys) c.self.view_is) c.shift_remove_entry.new.self.entries g.T.PartialEq.eq (g.Q.Query.stands_for c.args.element) None c.shift_remove_entry.ensures.updates
