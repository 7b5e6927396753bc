use Rattle.starlark_hash.proofs.Common.{ap, length, ◌∙◌}
use Rattle.starlark_table.proofs.TableChanges.{inserted}
use Rattle.starlark_table.proofs.ready_table.ReadyTable.insert_at.Goals as goal

pub invariant_of-self : goal.invariant_of-self
invariant_of-self g c =
    let put = c.put_at.ensures in
    let vacant = rw (← ap (λ t. t.slots) c.self.view_is) at c.requires.vacant in
    (inserted _ _ _ _ c.self.invariant _ c.self.view_is _ (c.of.result, c.args.item) _ _ _ (put.told c.self.inside.far c.self.invariant.told)
    c.requires.room put.set vacant.within vacant.empty put.in_place put.tagged).0.sound _ (c.put_at.auto.tags ∙ ap length c.as_mut_slice.ensures.value)

pub returns-clause-added : goal.returns-clause-added
returns-clause-added g c =
    let put = c.put_at.ensures in
    let vacant = rw (← ap (λ t. t.slots) c.self.view_is) at c.requires.vacant in
    rw (← c.of.ensures) (inserted _ _ _ _ c.self.invariant _ c.self.view_is _ (c.of.result, c.args.item) _ _ _ (put.told c.self.inside.far c.self.invariant.told)
    c.requires.room put.set vacant.within vacant.empty put.in_place put.tagged).1

pub returns-clause-room : goal.returns-clause-room
returns-clause-room g c =
    let put = c.put_at.ensures in
    let vacant = rw (← ap (λ t. t.slots) c.self.view_is) at c.requires.vacant in
    (inserted _ _ _ _ c.self.invariant _ c.self.view_is _ (c.of.result, c.args.item) _ _ _ (put.told c.self.inside.far c.self.invariant.told)
    c.requires.room put.set vacant.within vacant.empty put.in_place put.tagged).0.room
