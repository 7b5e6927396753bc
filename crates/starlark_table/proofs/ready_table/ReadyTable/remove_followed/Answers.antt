use Rattle.starlark_hash.proofs.Common.{IsSome, ap, length, subst, sym, ◌∙◌}
use Rattle.starlark_table.specs.Table.{member_at}
use Rattle.starlark_table.specs.Layout.{at}
use Rattle.starlark_table.proofs.TableChanges.{removed}
use Rattle.starlark_table.proofs.FilledSlots.{filled-by_some}
use Rattle.starlark_table.proofs.ready_table.ReadyTable.remove_followed.Goals as goal

pub take_out-member-requires-clause-full : goal.take_out-member-requires-clause-full
take_out-member-requires-clause-full g c =
    filled-by_some (at c.self.inside.slots c.args.slot) (subst (λ t. IsSome (member_at t c.args.slot)) (sym c.self.view_is) c.requires.full)

pub take_out-member-requires-clause-load : goal.take_out-member-requires-clause-load
take_out-member-requires-clause-load g c = rw (← c.self.invariant.counted) c.self.invariant.load

pub take_out-member-requires-clause-tagged : goal.take_out-member-requires-clause-tagged
take_out-member-requires-clause-tagged g c = rw c.as_mut_slice-tags.ensures.value c.self.invariant.tagged

pub overflow_sub-self : goal.overflow_sub-self
overflow_sub-self g c =
    let left = c.take_out-member.ensures in
    (removed _ _ _ _ c.self.invariant _ c.self.view_is _ _ _ left.sized left.in_place left.tagged left.rest left.told).0

pub invariant_of-self : goal.invariant_of-self
invariant_of-self g c =
    let left = c.take_out-member.ensures in
    (removed _ _ _ _ c.self.invariant _ c.self.view_is _ _ _ left.sized left.in_place left.tagged left.rest left.told).1.sound _ (c.take_out-member.auto.tags ∙ ap length c.as_mut_slice-tags.ensures.value)

pub returns-clause-room : goal.returns-clause-room
returns-clause-room g c =
    let left = c.take_out-member.ensures in
    (removed _ _ _ _ c.self.invariant _ c.self.view_is _ _ _ left.sized left.in_place left.tagged left.rest left.told).1.room
