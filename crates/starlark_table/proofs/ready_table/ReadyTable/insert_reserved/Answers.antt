use Rattle.starlark_hash.proofs.Common.{ap, length, ◌∙◌}
use Rattle.starlark_table.proofs.TableChanges.{inserted, slot_for_one}
use Rattle.starlark_table.proofs.ready_table.ReadyTable.insert_reserved.Goals as goal

pub put-slot-requires-clause-free : goal.put-slot-requires-clause-free
put-slot-requires-clause-free g c = slot_for_one _ _ _ _ c.self.invariant _ c.self.view_is c.requires

pub invariant_of-self : goal.invariant_of-self
invariant_of-self g c =
    let put = c.put-slot.ensures in
    let same = c.put-slot.auto.tags ∙ ap length c.as_mut_slice.ensures.value in
    (inserted _ _ _ _ c.self.invariant _ c.self.view_is _ (c.of.result, c.args.item) _ _ _ put.told c.requires put.set put.in_range put.empty put.in_place put.tagged).0.sound _ same

pub returns-clause-added : goal.returns-clause-added
returns-clause-added g c =
    let put = c.put-slot.ensures in
    rw (← c.of.ensures) (inserted _ _ _ _ c.self.invariant _ c.self.view_is _ (c.of.result, c.args.item) _ _ _ put.told c.requires put.set put.in_range put.empty put.in_place put.tagged).1

pub returns-clause-room : goal.returns-clause-room
returns-clause-room g c =
    let put = c.put-slot.ensures in
    (inserted _ _ _ _ c.self.invariant _ c.self.view_is _ (c.of.result, c.args.item) _ _ _ put.told c.requires put.set put.in_range put.empty put.in_place put.tagged).0.room
