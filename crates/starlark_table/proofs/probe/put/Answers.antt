use Rattle.starlark_hash.proofs.Common.{◌≡◌, ◌+◌, ◌-◌, length, arith}
use Rattle.starlark_table.proofs.OverflowFilter.{told-put}
use Rattle.starlark_table.proofs.probe.put.Goals as goal

pub returns-clause-told : goal.returns-clause-told
returns-clause-told g c =
    let at = c.slot_from-slot.ensures in
    let some = c.requires.free in
    let count : c.cells.result - 1 + 1 ≡ length c.args.slots.now = omega (arith, some.1, c.cells.ensures.cells) in
    rw c.write.ensures
    (told-put _ _ _ _ _ _ _ at.in_range c.requires.told (rw (count, c.number-number.ensures) at c.home.ensures) (rw c.number-number.ensures at c.tag-tag.ensures) at.others at.its)
