use Rattle.starlark_hash.proofs.Common.{arith, ◌∙◌, None}
use Rattle.starlark_table.proofs.FullBits.{tagged_from-later}
use Rattle.starlark_table.proofs.GroupReplacement.{within-join, within-all, can_replace-after, alike_behind}
use Rattle.starlark_table.proofs.replace.replace_items.Goals as goal

pub replace_window-start-requires-clause-callable : goal.replace_window-start-requires-clause-callable
replace_window-start-requires-clause-callable g c =
    can_replace-after g.F.FnMut _ _ _ _ 0 _ (omega arith) c.windows.invariant.replaced c.requires.callable

pub windows-preserved : goal.windows-preserved
windows-preserved g c =
    let k = c.windows.invariant in
    let made = c.replace_window-start.ensures in
    record {
      sized = made.sized ∙ k.sized;
      tagged = tagged_from-later _ _ _ _ _ k.tagged (omega arith) made.sized (λ p behind. alike_behind _ _ _ p None made.replaced.after behind);
      replaced = within-join g.F.FnMut _ _ _ _ _ _ 0 _ _ (omega arith) (omega arith) k.replaced made.replaced;
    }

pub returns : goal.returns
returns g c = (c.windows.f, search (arith, within-all g.F.FnMut))
