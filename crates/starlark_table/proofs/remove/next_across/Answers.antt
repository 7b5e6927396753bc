use Rattle.starlark_hash.proofs.Common.{length, refl, arith}
use Rattle.starlark_table.proofs.Circle.{distance-below}
use Rattle.starlark_table.proofs.BackwardShift.{passed-begins, passed-next, passed-all}
use Rattle.starlark_table.proofs.SlotTags.{empty-by_tag, full-by_tag}
use Rattle.starlark_table.proofs.FilledSlots.{filled-by_tag}
use Rattle.starlark_table.proofs.remove.next_across.Goals as goal

pub crosses-requires-clause-full : goal.crosses-requires-clause-full
crosses-requires-clause-full g c = filled-by_tag _ _ _ c.requires.tagged (rw (← c.cells-count.ensures.cells) c.window_behind-beyond.ensures) c.if-tags-beyond.true

pub loop-next-init : goal.loop-next-init
loop-next-init g c =
    let q = c.requires.free in
    passed-begins _ _ _ refl c.requires.hole c.requires.empty _ q.0 q.1 q.2 q.3 (rw c.cells-count.ensures.cells at c.next_slot-next.ensures)

pub crosses-requires-in-loop-next-clause-full : goal.crosses-requires-in-loop-next-clause-full
crosses-requires-in-loop-next-clause-full g c = filled-by_tag _ _ _ c.requires.tagged c.loop-next.invariant.next_in c.loop-next-test.true

pub loop-next-smaller : goal.loop-next-smaller
loop-next-smaller g c =
    let k = c.loop-next.invariant in
    let some = full-by_tag _ _ _ c.requires.tagged k.next_in c.loop-next-test.true in
    let on = rw c.cells-count.ensures.cells at c.next_slot-next-in-loop-next.ensures in
    let step = passed-next _ _ _ refl c.requires.hole c.requires.empty _ _ k some (c.crosses-in-loop-next.ensures.no c.if-crosses-2.false) on in
    omega (arith, step.0, distance-below (length c.args.slots.now) c.args.hole c.loop-next.next c.requires.hole k.next_in)

pub loop-next-preserved : goal.loop-next-preserved
loop-next-preserved g c =
    let k = c.loop-next.invariant in
    let some = full-by_tag _ _ _ c.requires.tagged k.next_in c.loop-next-test.true in
    let on = rw c.cells-count.ensures.cells at c.next_slot-next-in-loop-next.ensures in
    (passed-next _ _ _ refl c.requires.hole c.requires.empty _ _ k some (c.crosses-in-loop-next.ensures.no c.if-crosses-2.false) on).1

pub returns-clause-none : goal.returns-clause-none
returns-clause-none g c = search (passed-all, empty-by_tag)
