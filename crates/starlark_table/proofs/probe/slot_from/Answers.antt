use Rattle.starlark_hash.proofs.Common.{length, arith}
use Rattle.starlark_table.proofs.Circle.{distance-self}
use Rattle.starlark_table.proofs.ProbeSequence.{first_empty, full_up_to}
use Rattle.starlark_table.proofs.probe.slot_from.Goals as goal

pub returns : goal.returns
returns g c =
    let here = distance-self (length c.args.slots.now) c.args.home in
    let first = first_empty _ _ c.requires.tagged _ _ c.requires.home c.slots_with-empty.ensures c.if-empty-eq0.false in
    let path = full_up_to _ _ c.requires.tagged _ c.requires.home c.requires.free _ _ c.requires.home (λ q q_in near. absurd (omega arith)) first in
    grind (arith, first, path)
