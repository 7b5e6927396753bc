use Rattle.starlark_hash.proofs.Common.{length, arith, ◌∙◌, ap, length-append, length_permutation, IsPermutation-refl, IsPermutation-trans}
use Rattle.starlark_table.specs.Table.{filled}
use Rattle.starlark_table.proofs.FilledSlots.{all_empty}
use Rattle.starlark_table.proofs.FullBits.{tagged_from-start, tagged_from-later}
use Rattle.starlark_table.proofs.Load.{filled-replicate}
use Rattle.starlark_table.proofs.growth.move_all.Goals as goal

pub windows-init : goal.windows-init
windows-init g c = grind (arith, tagged_from-start, IsPermutation-refl)

pub move_window-start-requires-clause-room : goal.move_window-start-requires-clause-room
move_window-start-requires-clause-room g c = grind (arith, length-append, length_permutation)

pub windows-preserved : goal.windows-preserved
windows-preserved g c = grind (arith, tagged_from-later, IsPermutation-trans)

pub give_back-requires : goal.give_back-requires
give_back-requires g c = search (arith, all_empty)

pub returns-clause-bag : goal.returns-clause-bag
returns-clause-bag g c =
    let k = c.windows.invariant in
    let sized = k.old_sized in
    let all = all_empty c.windows.old (λ p below. k.emptied p (omega arith)) in
    rw (ap filled all ∙ filled-replicate (length c.windows.old)) at k.bag
