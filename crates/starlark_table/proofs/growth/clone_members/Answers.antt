use Rattle.starlark_hash.proofs.Common.{◌<◌, length, None, Some, arith, refl, sym, ap, ◌∙◌, set-get_or}
use Rattle.starlark_table.specs.Layout.{at, slot_tag}
use Rattle.starlark_table.proofs.FilledSlots.{filled-by_tag}
use Rattle.starlark_table.proofs.SlotTags.{empty-by_tag}
use Rattle.starlark_table.proofs.ClonedSlots.{cloned-next}
use Rattle.starlark_table.proofs.growth.clone_members.Goals as goal
use Rattle.starlark_table.proofs.growth.clone_members.Goals.{then-tags-slot+in_ok-item, else-tags-slot}

pub get-requires : goal.get-requires
get-requires g c =
    let below : c.loop-slot.slot < length c.args.slots.now = omega (arith, c.loop-slot-test.true, c.cells-slot-end.ensures.cells) in
    filled-by_tag _ _ _ c.requires.tagged below c.if-tags-slot.true

pub loop-slot-preserved : goal.loop-slot-preserved
loop-slot-preserved g c =
    let k = c.loop-slot.invariant in
    let i = c.loop-slot.slot in
    let below : i < length c.args.slots.now = omega (arith, c.loop-slot-test.true, c.cells-slot-end.ensures.cells) in
    elim c.if-tags-slot.branch [
      | then-tags-slot+in_ok-item w ↦
          cloned-next g.T.Clone.is_clone _ _ _ _ _ _ _ (Some (w.get.result.now.0, w.in_ok-item.item)) below k
          (rw w.get.ensures (w.in_ok-item.item, w.in_ok-item.ensures.cases, refl))
          (w.copy-is ∙ rw w.copied.ensures at w.write.ensures) w.copy_tags-is
          (c.requires.tagged.tagged i below ∙ ap slot_tag w.get.ensures)
      | else-tags-slot w ↦
          let none = empty-by_tag _ _ _ c.requires.tagged below w.if-tags-slot.false in
          cloned-next g.T.Clone.is_clone _ _ _ _ _ _ _ (at c.loop-slot.copy i) below k (rw none (k.empty i (omega arith)))
          (w.copy-is ∙ sym (set-get_or c.loop-slot.copy i None)) (w.copy_tags-is ∙ sym (set-get_or c.loop-slot.copy_tags i 0))
          (k.tagged.tagged i (omega (arith, below, k.sized)))
    ]
