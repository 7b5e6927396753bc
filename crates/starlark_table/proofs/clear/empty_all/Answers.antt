use Rattle.starlark_hash.proofs.Common.{◌<◌, length, arith, ◌∙◌}
use Rattle.starlark_table.proofs.FilledSlots.{filled-by_tag}
use Rattle.starlark_table.proofs.SlotTags.{empty-by_tag}
use Rattle.starlark_table.proofs.EmptiedSlots.{emptied_again, emptied-next}
use Rattle.starlark_table.proofs.clear.empty_all.Goals as goal
use Rattle.starlark_table.proofs.clear.empty_all.Goals.{then-tags-slot, else-tags-slot}

pub take-member-requires : goal.take-member-requires
take-member-requires g c =
    let below : c.loop-slot.slot < length c.args.slots.now = omega (arith, c.loop-slot-test.true, c.cells-slot-end.ensures.cells) in
    let there = filled-by_tag _ _ _ c.requires below c.if-tags-slot.true in
    (there.0, c.loop-slot.invariant.untouched c.loop-slot.slot (omega arith) ∙ there.1)

pub loop-slot-preserved : goal.loop-slot-preserved
loop-slot-preserved g c =
    let k = c.loop-slot.invariant in
    let below : c.loop-slot.slot < length c.args.slots.now = omega (arith, c.loop-slot-test.true, c.cells-slot-end.ensures.cells) in
    emptied-next _ _ _ _ (omega (arith, below, k.sized)) k (elim c.if-tags-slot.branch [
      | then-tags-slot w ↦ w.slots-is ∙ w.take-member.ensures.cells
      | else-tags-slot w ↦
          let none = empty-by_tag _ _ _ c.requires below w.if-tags-slot.false in
          emptied_again _ _ _ (k.untouched c.loop-slot.slot (omega arith) ∙ none) w.slots-is
    ])
