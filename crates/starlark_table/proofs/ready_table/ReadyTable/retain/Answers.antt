use Rattle.starlark_hash.proofs.Common.{ap, length, ◌∙◌, arith, length_permutation}
use Rattle.starlark_table.specs.Table.{filled}
use Rattle.starlark_table.specs.Walk.{AsksMember}
use Rattle.starlark_table.proofs.TableChanges.{some_kept}
use Rattle.starlark_table.proofs.RetainPass.{length-retained}
use Rattle.starlark_table.proofs.ready_table.ReadyTable.retain.Goals as goal

pub invariant_of-self : goal.invariant_of-self
invariant_of-self g c =
    let after = c.retain_items-kept.ensures in
    let same = c.retain_items-kept.auto.tags ∙ ap length c.as_mut_slice.ensures.value in
    (some_kept _ _ _ _ c.self.invariant _ c.self.view_is _ _ _ after.sized after.in_place after.tagged after.counted
    (omega (arith, length-retained (AsksMember g.F.FnMut) c.args.f (filled c.self.inside.slots) _ after.kept.1, length_permutation _ _ after.kept.2))).sound _ same

pub returns-clause-room : goal.returns-clause-room
returns-clause-room g c =
    let after = c.retain_items-kept.ensures in
    (some_kept _ _ _ _ c.self.invariant _ c.self.view_is _ _ _ after.sized after.in_place after.tagged after.counted
    (omega (arith, length-retained (AsksMember g.F.FnMut) c.args.f (filled c.self.inside.slots) _ after.kept.1, length_permutation _ _ after.kept.2))).room
