use Rattle.starlark_hash.proofs.Common.{ap, length, ◌∙◌}
use Rattle.starlark_table.proofs.Sound.{emptied, filled-none}
use Rattle.starlark_table.proofs.TagCount.{refilled}
use Rattle.starlark_table.proofs.ready_table.ReadyTable.clear.Goals as goal

pub invariant_of-self : goal.invariant_of-self
invariant_of-self g c =
    rw (refilled c.self.inside.tags _ (c.untag.auto.tags ∙ ap length c.as_mut_slice.ensures.value))
    (emptied _ _ _ _ _ _ c.self.invariant c.empty_all.ensures.sized c.untag.ensures c.empty_all.ensures.empty)

pub returns-clause-empty : goal.returns-clause-empty
returns-clause-empty g c = filled-none _ c.empty_all.ensures.empty
