use Rattle.starlark_table.proofs.Shape.{reshaped, shape-replaced, same_length}
use Rattle.starlark_table.proofs.ready_table.ReadyTable.replace_each.Goals as goal

pub invariant_of-self : goal.invariant_of-self
invariant_of-self g c =
    let walk = c.replace_items.ensures in
    reshaped _ _ (shape-replaced g.F.FnMut _ _ _ _ walk.1) _ _ _ c.self.invariant

pub returns-clause-room : goal.returns-clause-room
returns-clause-room g c =
    let walk = c.replace_items.ensures in
    rw (same_length _ _ (shape-replaced g.F.FnMut _ c.replace_items.new.slots _ _ walk.1), ← c.self.view_is)
