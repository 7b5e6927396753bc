use Rattle.starlark_hash.proofs.Common.{◌∙◌, IsPermutation-refl, IsPermutation-trans}
use Rattle.starlark_table.proofs.BackwardShift.{closing-begins, closing-slot_in, closing-smaller, closing-moved, swapped_slots}
use Rattle.starlark_table.proofs.OverflowFilter.{told-moved}
use Rattle.starlark_table.proofs.remove.close_gap.Goals as goal

pub loop-slot-init : goal.loop-slot-init
loop-slot-init g c = search (closing-begins, IsPermutation-refl)

pub loop-slot-smaller : goal.loop-slot-smaller
loop-slot-smaller g c =
    let k = c.loop-slot.invariant.closing in
    closing-smaller _ _ _ _ _ c.requires.start k (rw k.sized at c.in-Some.ensures.found)

pub loop-slot-preserved : goal.loop-slot-preserved
loop-slot-preserved g c =
    let k = c.loop-slot.invariant.closing in
    let over = rw k.sized at c.in-Some.ensures.found in
    let slot_in = closing-slot_in _ _ _ _ _ c.requires.start k over in
    let moved = swapped_slots _ _ _ _ _ _ k.sized k.hole_in slot_in k.empty over.there c.move_into.ensures.moved in
    record {
      closing = closing-moved _ _ _ _ _ c.requires.start k over _ moved.0;
      bag = IsPermutation-trans _ _ _ c.loop-slot.invariant.bag moved.1;
      tagged = c.move_into.ensures.tagged;
      known = c.move_into.ensures.known;
      size = c.move_into.ensures.size ∙ c.loop-slot.invariant.size;
      told = λ far told. rw c.move_into.ensures.moved (told-moved _ _ _ far _ (rw k.sized k.hole_in) (rw k.sized slot_in) k.empty over.there (rw k.sized over.far) (c.loop-slot.invariant.told far told));
    }
