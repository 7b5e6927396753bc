use Rattle.starlark_hash.proofs.Common.{None, arith, refl}
use Rattle.starlark_table.proofs.EmptySearch.{searches_no_slots}
use Rattle.starlark_table.proofs.ready_table.ReadyTable.find_item.Goals as goal

pub returns-then-slots-eq0 : goal.returns-then-slots-eq0
returns-then-slots-eq0 g c =
    (None, c.args.eq, searches_no_slots g.F.FnMut _ c.args.self.now.slots c.args.eq (omega (arith, c.slots.ensures, c.if-slots-eq0.true)), refl)
