use Rattle.starlark_hash.proofs.Common.{length, None, arith, ◌∙◌, ap, refl, set, length-set, get_or-set_other}
use Rattle.starlark_table.proofs.BackwardShift.{full_in_range}
use Rattle.starlark_table.proofs.FullBits.{window_alike}
use Rattle.starlark_table.proofs.FilledSlots.{filled-past_front, filled-first_taken, empty-joined, empty-after_taken}
use Rattle.starlark_table.proofs.TagCount.{doubled-alike, refilled}
use Rattle.starlark_table.proofs.SlotTags.{tagged-changed}
use Rattle.starlark_table.proofs.iter.IntoIter.next_kept.Goals as goal

pub step-slot-requires-clause-some : goal.step-slot-requires-clause-some
step-slot-requires-clause-some g c = grind (arith, filled-past_front c.self.inside.slots c.self.inside.ahead.next c.self.invariant.2)

pub invariant_of-self : goal.invariant_of-self
invariant_of-self g c =
    let slots = c.self.inside.slots in
    let i = c.step-slot.result in
    let taken = c.take-hash.ensures in
    let i_in = full_in_range _ _ _ taken.value in
    let front = empty-joined slots c.self.inside.ahead.next i c.self.invariant.2 c.step-slot.ensures.passed in
    let fewer = ap length (filled-first_taken slots i c.take-hash.result front taken.value) in
    let left = c.self.invariant.1 in
    let same = c.as_mut_slice.ensures.value in
    let written = refilled c.self.inside.tags (set c.as_mut_slice.result.now i 255) (length-set c.as_mut_slice.result.now i 255 ∙ ap length same) ∙ ap (λ l. set l i 255) same in (
      rw (written, taken.cells) (tagged-changed _ slots i 255 None i_in c.self.invariant.0 refl),
      rw taken.cells (omega (arith, fewer, left)),
      λ p below. rw taken.cells (empty-after_taken slots i i_in front p (rw c.step-slot.ensures.next at below)),
      doubled-alike slots _ (ap length taken.cells ∙ length-set slots i None) c.self.invariant.3,
      window_alike slots _ _ _ _ _ c.step-slot.ensures.left
          (λ p behind. rw taken.cells (get_or-set_other slots i p None None (λ same. absurd (omega (arith, behind, same, c.step-slot.ensures.next))))),
    )

pub returns : goal.returns
returns g c = grind (arith, empty-joined, filled-first_taken)
