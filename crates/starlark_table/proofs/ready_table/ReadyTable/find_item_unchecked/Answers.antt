use Rattle.starlark_hash.proofs.Common.{Some, sym, ap, length, option_map}
use Rattle.starlark_table.proofs.Load.{sound-empty_slot}
use Rattle.starlark_table.proofs.ready_table.ReadyTable.find_item_unchecked.Goals as goal

pub find_slot-requires-clause-free : goal.find_slot-requires-clause-free
find_slot-requires-clause-free g c =
    sound-empty_slot _ _ _ _ c.self.invariant (rw (← ap (λ t. length t.slots) c.self.view_is) at c.requires.some)

pub find_slot-requires-clause-callable : goal.find_slot-requires-clause-callable
find_slot-requires-clause-callable g c = rw (ap (λ t. t.slots) c.self.view_is, c.of.ensures) c.requires.callable

pub returns : goal.returns
returns g c =
    let found = c.in_ok-item.ensures.found in
    let shown = ap (λ t. t.slots) c.self.view_is in
    let there = rw shown at c.in_ok-item.ensures.item in
    (Some c.in_ok-item.field-0-0, found.0, rw (shown, c.of.ensures) at found.1, sym (ap (option_map (λ m. m.1)) there))
