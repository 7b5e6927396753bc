use Rattle.starlark_hash.proofs.Common.{◌<◌, ◌+◌, drop, None, Some, arith, ◌∙◌, length, get_or-set_same}
use Rattle.starlark_table.specs.Table.{items_in}
use Rattle.starlark_table.specs.Walk.{TakesAtMut}
use Rattle.starlark_table.proofs.ClosureCalls.{walk_asks}
use Rattle.starlark_table.proofs.Lists.{head_left}
use Rattle.starlark_table.proofs.FilledSlots.{filled-by_tag}
use Rattle.starlark_table.proofs.RetainPass.{Turn, turn-kept, turn-taken, turn-empty, walked_on, walked_all}
use Rattle.starlark_table.proofs.retain.keep_items.Goals as goal
use Rattle.starlark_table.proofs.retain.keep_items.Goals.{then-tags-slot+then-ask, then-tags-slot+else-ask, else-tags-slot}

pub get_mut-requires : goal.get_mut-requires
get_mut-requires g c =
    let k = c.loop-slot.invariant in
    filled-by_tag _ _ _ k.tagged (omega (arith, k.stand.sized)) c.if-tags-slot.true

pub ask-requires : goal.ask-requires
ask-requires g c =
    let k = c.loop-slot.invariant in
    walk_asks (TakesAtMut g.F.FnMut) _ _ (items_in (drop (c.loop-slot.slot + 1) c.args.slots.now)) _
    (rw (head_left c.args.slots.now c.loop-slot.slots c.loop-slot.slot None _ (omega (arith, k.stand.sized)) k.untouched c.get_mut.ensures.value) at k.callable)

pub take-member-requires : goal.take-member-requires
take-member-requires g c =
    let sized = c.loop-slot.invariant.stand.sized in
    (c.ask.new.member, get_or-set_same c.loop-slot.slots c.loop-slot.slot (Some c.ask.new.member) None (omega (arith, sized)))

pub loop-slot-preserved : goal.loop-slot-preserved
loop-slot-preserved g c =
    let k = c.loop-slot.invariant in
    let below : c.loop-slot.slot < length c.loop-slot.slots = omega (arith, k.stand.sized) in
    let turn : Turn g.F.FnMut c.loop-slot.slots c.if-tags-slot.slots c.if-tags-slot.tags c.loop-slot.slot c.loop-slot.kept c.if-tags-slot.kept c.loop-slot.f c.if-tags-slot.f =
    elim c.if-tags-slot.branch [
      | then-tags-slot+then-ask w ↦ turn-kept g.F.FnMut _ _ _ _ _ _ _ _ _ below k.tagged _ _ _ _ w.get_mut.ensures.value w.ask.ensures w.if-ask.true w.slots-is w.tags-is w.kept-is w.f-is
      | then-tags-slot+else-ask w ↦ turn-taken g.F.FnMut _ _ _ _ _ _ _ _ _ below k.tagged _ _ _ _ w.get_mut.ensures.value w.ask.ensures w.if-ask.false (w.slots-is ∙ w.take-member.ensures.cells) w.tags-is w.kept-is w.f-is
      | else-tags-slot w ↦ turn-empty g.F.FnMut _ _ _ _ _ _ _ _ _ below k.tagged w.if-tags-slot.false w.slots-is w.tags-is w.kept-is w.f-is
    ] in
    walked_on g.F.FnMut _ _ _ _ _ _ _ _ _ _ _ below k turn

pub returns-clause-kept : goal.returns-clause-kept
returns-clause-kept g c =
    walked_all g.F.FnMut _ _ _ _ _ _ _ (omega (arith, c.loop-slot-test.false, c.cells-slot-end.ensures.cells)) c.loop-slot.invariant
