use Rattle.starlark_hash.proofs.Common.{◌-◌, length, arith}
use Rattle.starlark_table.proofs.Circle.{distance-below}
use Rattle.starlark_table.proofs.ProbeSequence.{passed, first_empty, full_up_to}
use Rattle.starlark_table.proofs.probe.free_slot.Goals as goal

pub windows-smaller : goal.windows-smaller
windows-smaller g c =
    let k = c.windows.invariant in
    let p = passed _ _ c.requires.tagged _ c.requires.home c.requires.free (c.cells-mask.result - 1) _ _ _
    (omega (arith, c.requires.home, c.cells-mask.ensures.cells)) k.in_range k.path k.its c.windows-test.true c.window_after-start.ensures.on c.window_after-start.ensures.round in
    omega (arith, k.in_range, p.steps, distance-below (length c.args.slots.now) c.args.home c.window_after-start.result c.requires.home p.in_range)

pub windows-preserved : goal.windows-preserved
windows-preserved g c =
    let k = c.windows.invariant in
    let p = passed _ _ c.requires.tagged _ c.requires.home c.requires.free (c.cells-mask.result - 1) _ _ _
    (omega (arith, c.requires.home, c.cells-mask.ensures.cells)) k.in_range k.path k.its c.windows-test.true c.window_after-start.ensures.on c.window_after-start.ensures.round in
    record { in_range = p.in_range; path = p.path; its = c.slots_with-empty-in-windows.ensures }

pub returns : goal.returns
returns g c =
    let k = c.windows.invariant in
    let first = first_empty _ _ c.requires.tagged _ _ k.in_range k.its c.windows-test.false in
    record { in_range = first.in_range; empty = first.empty; path = full_up_to _ _ c.requires.tagged _ c.requires.home c.requires.free _ _ k.in_range k.path first }
