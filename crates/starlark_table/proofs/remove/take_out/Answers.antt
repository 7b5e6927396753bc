use Rattle.starlark_hash.proofs.Common.{inl, inr, refl, arith, length-set, IsPermutation-cons, IsPermutation-trans}
use Rattle.starlark_table.proofs.SlotTags.{tag-below, tag-member, tagged-changed}
use Rattle.starlark_table.proofs.BackwardShift.{full_in_range, gap_left}
use Rattle.starlark_table.proofs.OverflowFilter.{in_place-near, told-taken}
use Rattle.starlark_table.proofs.UncrossedSlot.{in_place-not_passed}
use Rattle.starlark_table.proofs.Load.{another_empty_slot}
use Rattle.starlark_table.proofs.Bag.{filled-set_none}
use Rattle.starlark_table.proofs.remove.take_out.Goals as goal

pub close_gap-requires-clause-gap : goal.close_gap-requires-clause-gap
close_gap-requires-clause-gap g c =
    rw (c.take-member.ensures.cells, length-set) (gap_left _ _ _ refl (full_in_range _ _ _ c.take-member.ensures.value) c.requires.in_place)

pub close_gap-requires-clause-free : goal.close_gap-requires-clause-free
close_gap-requires-clause-free g c =
    rw c.take-member.ensures.cells (another_empty_slot _ _ _ (full_in_range _ _ _ c.take-member.ensures.value) c.requires.load c.take-member.ensures.value)

pub leaves_gap-passed-requires-clause-full : goal.leaves_gap-passed-requires-clause-full
leaves_gap-passed-requires-clause-full g c =
    let it = c.requires.full in
    λ e. omega (arith, tag-below it.0.0, tag-member c.args.tags.now c.args.slots.now c.args.slot it.0.0 it.0.1 c.requires.tagged it.1, e)

pub returns-then-passed-clause-rest : goal.returns-then-passed-clause-rest
returns-then-passed-clause-rest g c =
    IsPermutation-trans _ _ _ (filled-set_none _ c.args.slot _ c.take-member.ensures.value) (IsPermutation-cons _ _ _ (rw c.take-member.ensures.cells at c.close_gap.ensures.bag))

pub returns-then-passed-clause-told : goal.returns-then-passed-clause-told
returns-then-passed-clause-told g c =
    c.close_gap.ensures.told _ (rw c.take-member.ensures.cells (told-taken _ _ _ (full_in_range _ _ _ c.take-member.ensures.value) c.requires.told))

pub returns-else-passed-clause-rest : goal.returns-else-passed-clause-rest
returns-else-passed-clause-rest g c = rw c.take-member.ensures.cells (filled-set_none _ c.args.slot _ c.take-member.ensures.value)

pub returns-else-passed-clause-in_place : goal.returns-else-passed-clause-in_place
returns-else-passed-clause-in_place g c =
    let slot_in = full_in_range _ _ _ c.take-member.ensures.value in
    rw (c.take-member.ensures.cells, length-set) (elim (c.leaves_gap-passed.ensures c.if-passed.false) [
      | inl near ↦ rw length-set at (in_place-near _ (told-taken c.args.slots.now c.args.slot 0 slot_in (rw near at c.requires.told)))
      | inr between ↦ in_place-not_passed _ _ _ c.requires.tagged slot_in between c.requires.in_place
    ])

pub returns-else-passed-clause-told : goal.returns-else-passed-clause-told
returns-else-passed-clause-told g c =
    rw c.take-member.ensures.cells (told-taken _ _ _ (full_in_range _ _ _ c.take-member.ensures.value) c.requires.told)

pub returns-else-passed-clause-tagged : goal.returns-else-passed-clause-tagged
returns-else-passed-clause-tagged g c =
    rw c.take-member.ensures.cells (tagged-changed _ _ _ _ _ (full_in_range _ _ _ c.take-member.ensures.value) c.requires.tagged refl)
