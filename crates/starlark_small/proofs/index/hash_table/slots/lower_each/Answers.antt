use Rattle.starlark_hash.proofs.Common.{refl, ap, ◌∙◌, arith}
use Rattle.starlark_small.proofs.Slots.{lowered-none, lowered-next, lowered-all, next-there}
use Rattle.starlark_small.proofs.index.hash_table.slots.lower_each.Goals as goal

pub loop-j-init : goal.loop-j-init
loop-j-init c = record { slots = lowered-none c.args.index c.args.cells.now.items c.args.table.now c.requires.sited; room = refl }

pub write_index-requires-clause-full : goal.write_index-requires-clause-full
write_index-requires-clause-full c =
    next-there c.args.index c.args.cells.now.items c.args.table.now c.requires.sited c.requires.stands c.loop-j.j c.index.result.now (omega (arith, c.loop-j.auto.j))
    (omega (arith, c.loop-j-test.true, c.len-j-end.ensures, c.args.cells.now.ok.0)) c.index.ensures c.loop-j.table c.loop-j.invariant.slots

pub loop-j-preserved : goal.loop-j-preserved
loop-j-preserved c =
    let next = lowered-next c.args.index c.args.cells.now.items c.args.table.now c.requires.sited c.requires.stands c.loop-j.j c.index.result.now (omega (arith, c.loop-j.auto.j))
    (omega (arith, c.loop-j-test.true, c.len-j-end.ensures, c.args.cells.now.ok.0)) c.index.ensures c.loop-j.table c.loop-j.invariant.slots in
    assumption (ap (λ t. t.slots) c.write_index.ensures ∙ next, ap (λ t. t.room) c.write_index.ensures ∙ c.loop-j.invariant.room)

pub returns : goal.returns
returns c =
    assumption (c.loop-j.invariant.slots ∙ lowered-all c.args.index c.args.cells.now.items c.args.table.now c.requires.sited c.loop-j.j (omega (arith, c.loop-j-test.false, c.len-j-end.ensures, c.args.cells.now.ok.0)))
