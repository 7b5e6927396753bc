use Rattle.starlark_hash.proofs.Common.{arith, rules, common_steps}
use Rattle.starlark_sets.proofs.Lookups.{writes-key}
use Rattle.starlark_sets.proofs.small_set.SmallSet.shift_remove_index_hashed.Goals as goal

pub returns-clause-updates : goal.returns-clause-updates
returns-clause-updates g c =
    rw (← c.self.view_is)
    (writes-key g.T.PartialEq.eq g.met.T.Eq.laws c.self.inside.map.entries c.shift_remove_index_hashed.new.self.entries c.args.i c.in_ok-element.element c.iter_hashed.ensures.single (first_of (search rules, grind (arith, common_steps))) c.shift_remove_index_hashed.ensures.removes.entries)
