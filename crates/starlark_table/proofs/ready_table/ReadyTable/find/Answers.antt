use Rattle.starlark_hash.proofs.Common.{ap, arith, length}
use Rattle.starlark_table.proofs.Load.{sound-empty_slot}
use Rattle.starlark_table.proofs.EmptySearch.{searches_no_slots}
use Rattle.starlark_table.proofs.ready_table.ReadyTable.find.Goals as goal

pub find_slot-requires-clause-free : goal.find_slot-requires-clause-free
find_slot-requires-clause-free g c =
    sound-empty_slot _ _ _ _ c.self.invariant (omega (arith, ap (λ t. length t.slots) c.self.view_is, c.slots.ensures, c.if-slots-eq0.false))

pub find_slot-requires-clause-callable : goal.find_slot-requires-clause-callable
find_slot-requires-clause-callable g c = rw (ap (λ t. t.slots) c.self.view_is, c.of.ensures) c.requires

pub returns : goal.returns
returns g c =
    let found = c.in_ok-slot.ensures.found in
    (found.0, rw (ap (λ t. t.slots) c.self.view_is, c.of.ensures) at found.1)

pub returns-then-slots-eq0 : goal.returns-then-slots-eq0
returns-then-slots-eq0 g c = (c.args.eq, searches_no_slots g.F.FnMut _ c.args.self.now.slots c.args.eq (omega (arith, c.slots.ensures, c.if-slots-eq0.true)))
