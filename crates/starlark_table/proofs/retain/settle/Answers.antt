use Rattle.starlark_hash.proofs.Common.{None, ℕ, ◌≡◌, ◌<◌, ◌+◌, length, arith, sym, ◌∙◌, subst, if◌then◌else◌, ◌==◌, swap}
use Rattle.starlark_table.proofs.BackwardShift.{same_hash, swapped_slots, taken_and_written}
use Rattle.starlark_table.specs.Layout.{at, distance, IsTagged}
use Rattle.starlark_table.proofs.Circle.{distance-self, next-step}
use Rattle.starlark_table.proofs.BackwardShiftPass.{Steps, steps_first, settled_all, steps_moved, steps_stays}
use Rattle.starlark_table.proofs.SlotTags.{tagged-swapped, empty-by_tag}
use Rattle.starlark_table.proofs.FilledSlots.{filled-by_tag}
use Rattle.starlark_table.proofs.retain.settle.Goals as goal
use Rattle.starlark_table.proofs.retain.settle.Goals.{then-tags-slot+then-to-slot, then-tags-slot+else-to-slot, else-tags-slot}

next_placed : (m a slot i next : ℕ) → a < m → slot < m → distance m a slot ≡ i
    → next ≡ (if slot + 1 == m then 0 else slot + 1) → i + 1 < m → (next < m) × (distance m a next ≡ i + 1)
next_placed m a slot i next a_in slot_in e is more = grind (arith, next-step)

pub loop-step-init : goal.loop-step-init
loop-step-init g c =
    let m = c.cells-count.result in
    let long = sym c.cells-count.ensures.cells in
    let start_in = rw long at c.requires.start in
    let steps = steps_first m _ start_in _ (rw long at c.requires.reaches) long in
    grind (arith, next_placed m, distance-self m c.args.start)

pub get-requires : goal.get-requires
get-requires g c =
    let k = c.loop-step.invariant in
    let placed = k.placed c.loop-step-test.true in
    filled-by_tag _ _ c.loop-step.slot k.tagged (rw k.steps.sized placed.0) c.if-tags-slot.true

pub loop-step-preserved : goal.loop-step-preserved
loop-step-preserved g c =
    let k = c.loop-step.invariant in
    let placed = k.placed c.loop-step-test.true in
    let m = c.cells-count.result in
    let cur = c.loop-step.slots in
    let slot = c.loop-step.slot in
    let slot_in : slot < length cur = subst (λ n. slot < n) (sym k.steps.sized) placed.0 in
    let both : Steps m c.args.start (c.loop-step.step + 1) c.args.slots.now c.if-tags-slot.slots × IsTagged c.if-tags-slot.tags c.if-tags-slot.slots = elim c.if-tags-slot.branch [
      | then-tags-slot+then-to-slot w ↦
          let free = w.moves_to-to.ensures in
          let there : at cur w.moves_to-to.result ≡ None = grind (arith, free.empty, w.if-to-slot.true) in
          let taken = w.take-member.ensures in
          let is : c.if-tags-slot.slots ≡ swap cur w.moves_to-to.result slot =
          w.slots-is ∙ w.write.ensures ∙ rw taken.cells (taken_and_written _ _ _ _ free.within slot_in there taken.value) in
          let to_in = rw k.steps.sized at free.within in
          let moved = swapped_slots _ _ _ _ _ _ k.steps.sized to_in placed.0 there w.get.ensures is in (
            steps_moved m _ k.start_in _ _ _ _ _ _ _ _ k.steps placed.0 placed.1 w.get.ensures
                (rw (w.home_among-home.ensures, k.steps.sized) at free.near) (rw (w.home_among-home.ensures, k.steps.sized) at free.path) to_in moved.0 moved.1,
            rw (is, w.tags-is, w.swap.ensures.after) (tagged-swapped _ _ _ _ free.within slot_in k.tagged),
          )
      | then-tags-slot+else-to-slot w ↦ (
        steps_stays m _ k.start_in _ _ _ slot _ k.steps placed.0 placed.1 w.slots-is (λ q h x there far q_in nearer.
            let path = rw (w.home_among-home.ensures, k.steps.sized, w.if-to-slot.false) at w.moves_to-to.ensures.path in
            grind (arith, path, same_hash (h, x) w.get.result.now, w.get.ensures)),
        rw (w.slots-is, w.tags-is) k.tagged,
      )
      | else-tags-slot w ↦
          let none = empty-by_tag _ _ _ k.tagged slot_in w.if-tags-slot.false in
          (steps_stays m _ k.start_in _ _ _ slot _ k.steps placed.0 placed.1 w.slots-is (λ q h x full far q_in nearer. absurd (cc (full, none))), rw (w.slots-is, w.tags-is) k.tagged)
    ] in
    grind (arith, k.start_in, both.0, both.1, next_placed m c.args.start slot c.loop-step.step _ k.start_in placed.0 placed.1 c.next_slot-slot-in-loop-step.ensures)

pub returns-clause-in_place : goal.returns-clause-in_place
returns-clause-in_place g c =
    let k = c.loop-step.invariant in
    rw k.steps.sized (settled_all _ _ k.start_in _ _ _ c.loop-step-test.false k.steps)
