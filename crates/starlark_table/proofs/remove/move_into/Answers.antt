use Rattle.starlark_hash.proofs.Common.{arith}
use Rattle.starlark_table.specs.Follow.{CanMove}
use Rattle.starlark_table.proofs.BackwardShift.{full_in_range, taken_and_written}
use Rattle.starlark_table.proofs.SlotTags.{tagged-swapped}
use Rattle.starlark_table.proofs.remove.move_into.Goals as goal

pub moved-requires : goal.moved-requires
moved-requires g c =
    (c.args.slots.now, c.args.slot, c.take-member.result.0, record { there = c.take-member.ensures.value; empty = c.requires.empty; within = c.requires.hole }, c.requires.known)

pub returns-clause-moved : goal.returns-clause-moved
returns-clause-moved g c = grind (arith, taken_and_written, full_in_range)

pub returns-clause-tagged : goal.returns-clause-tagged
returns-clause-tagged g c =
    rw (c.swap.ensures.after, returns-clause-moved g c) (tagged-swapped _ _ _ _ c.requires.hole (full_in_range _ _ _ c.take-member.ensures.value) c.requires.tagged)

pub returns-clause-known : goal.returns-clause-known
returns-clause-known g c =
    let can_move : CanMove _ _ _ _ _ = record { there = c.take-member.ensures.value; empty = c.requires.empty; within = c.requires.hole } in
    rw (c.write.ensures, c.take-member.ensures.cells) (c.moved.ensures.known _ _ _ can_move c.requires.known)
