use Rattle.starlark_hash.proofs.Common.{refl, arith, ap}
use Rattle.std.proofs.iter.Next as it
use Rattle.starlark_table.specs.Table.{table_len}
use Rattle.starlark_table.proofs.TableLemmas.{grows-not, grows-on}
use Rattle.starlark_unordered.proofs.Collection.{takes_more}
use Rattle.starlark_unordered.proofs.unordered_map.UnorderedMap.insert_items.Goals as goal

pub loop-pair-init : goal.loop-pair-init
loop-pair-init g c = it.begun c.requires.can c.requires.finite (refl, grows-not c.args.self.now c.args.self.now refl)

pub loop-pair-preserved : goal.loop-pair-preserved
loop-pair-preserved g c =
    let inv = c.loop-pair.invariant in
    it.again inv c.in-Some.pair c.in-Some.is (c.next.ensures.steps, c.next.ensures.goes) (takes_more _ inv.seen c.in-Some.pair _ _ _ inv.holds c.in-Ok.ensures.pairs c.in-Ok.ensures.count c.insert.ensures.memory)

pub loop-pair-preserved-in-Ok : goal.loop-pair-preserved-in-Ok
loop-pair-preserved-in-Ok g c =
    let inv = c.loop-pair.invariant in
    it.again inv c.in-Some.pair c.in-Some.is (c.next.ensures.steps, c.next.ensures.goes) (takes_more _ inv.seen c.in-Some.pair _ _ _ inv.holds c.in-Ok.ensures.pairs c.in-Ok.ensures.count c.insert.ensures.memory)

pub returns-in-Err : goal.returns-in-Err
returns-in-Err g c =
    let inv = c.loop-pair.invariant in
    let goes = it.on c.in-Some.pair c.in-Some.is c.next.ensures.goes inv.ending in
    let room = grows-on c.args.self.now c.loop-pair.self c.insert.new.self (omega (arith, ap table_len c.in-Err.ensures.refused.unchanged)) inv.holds.1 c.insert.ensures.memory in
    grind (arith, room, goes.2, inv.counted)
