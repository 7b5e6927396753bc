-- An empty slot that no member's path crosses, since empty slots are near on both sides.
use Rattle.starlark_hash.proofs.Common.{ℕ, ◌<◌, List, length, Option, None, arith, common_steps, set}
use Rattle.starlark_table.specs.Layout.{home, InPlace, IsBetweenEmpty, IsTagged}
use Rattle.starlark_table.proofs.Circle.{home-below, one_on_way}
use Rattle.starlark_table.proofs.BackwardShift.{at-set, full_in_range}
use Rattle.starlark_table.proofs.SlotTags.{empty-by_tag}
use Rattle.starlark_table.proofs.ProbeSequence.{not_padding}

module _ {T : Type 0} where
  -- removing a member between such slots leaves all others in place
  pub in_place-not_passed : (tags : List ℕ) (slots : List (Option (ℕ × T))) (i : ℕ) → IsTagged tags slots → i < length slots → IsBetweenEmpty tags i
      → InPlace (length slots) slots → InPlace (length slots) (set slots i None)
  in_place-not_passed tags slots i tagged i_in between old =
      let n = length slots in
      let high_in : between.high < n = grind (arith, not_padding tags slots tagged between.high 255) in
      let low_none = empty-by_tag tags slots between.low tagged (omega (arith, between.before)) between.low_empty in
      let high_none = empty-by_tag tags slots between.high tagged high_in between.high_empty in
      record {
        reached = λ p q h x at_p far q_in nearer.
            let over = one_on_way n (home n h) p i between.low between.high in
            grind (arith, common_steps, at-set slots i p, home-below n h, full_in_range slots p (h, x), λ (q : ℕ). old.reached p q h x);
      }
