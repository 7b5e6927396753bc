use Rattle.starlark_hash.proofs.Common.{arith}
use Rattle.starlark_table.proofs.LentSlots.{marked-window, more_ahead, passed-window}
use Rattle.starlark_table.proofs.TagCount.{long_tags}
use Rattle.starlark_table.proofs.ahead.first_full.Goals as goal

pub full_slots-full-requires : goal.full_slots-full-requires
full_slots-full-requires g c =
    let inside = more_ahead _ _ c.windows.start c.windows.invariant c.requires.some in
    let long = long_tags _ _ c.requires.tagged.sized (omega (arith, inside)) in
    omega (arith, inside, long)

pub returns-then-full-ne0-clause-left : goal.returns-then-full-ne0-clause-left
returns-then-full-ne0-clause-left g c = search (marked-window)

pub windows-smaller : goal.windows-smaller
windows-smaller g c =
    let inside = more_ahead _ _ c.windows.start c.windows.invariant c.requires.some in
    omega (arith, inside, c.full_slots-full.ensures.some)

pub windows-preserved : goal.windows-preserved
windows-preserved g c = search (passed-window, marked-window)
