use Rattle.starlark_hash.proofs.Common.{rules, length, ap, ◌∙◌}
use Rattle.starlark_table.proofs.TableChanges.{taken_in}
use Rattle.starlark_table.proofs.ready_table.ReadyTable.take_members.Goals as goal

pub invariant_of-self : goal.invariant_of-self
invariant_of-self g c =
    let all = c.move_all.ensures in
    let same = c.move_all.auto.tags ∙ ap length c.as_mut_slice.ensures.value in
    (taken_in _ _ _ _ c.self.invariant _ c.self.view_is _ _ _ _ _ _ all.told c.other.invariant.counted c.other.view_is c.requires.room all.sized all.in_place all.tagged all.bag).0.sound _ same

pub returns : goal.returns
returns g c =
    let all = c.move_all.ensures in
    let done = taken_in _ _ _ _ c.self.invariant _ c.self.view_is _ _ _ _ _ _ all.told c.other.invariant.counted c.other.view_is c.requires.room all.sized all.in_place all.tagged all.bag in
    record { added = done.1; room = done.0.room; slots = search rules }
