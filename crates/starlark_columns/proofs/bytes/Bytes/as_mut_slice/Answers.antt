use Rattle.std.proofs.Common.{length, refl, sym, ap, ◌∙◌}
use Rattle.std.specs.List.{refill}
use Rattle.starlark_columns.proofs.ItemsAtFront.{written_items, written_cells, written_front}
use Rattle.starlark_columns.proofs.bytes.Bytes.as_mut_slice.Goals as goal

pub invariant_of-self-lent : goal.invariant_of-self-lent
invariant_of-self-lent c = λ w. let cells = c.self.inside.row.cells in let is = c.self.invariant in let same = written_cells cells (length cells) is.1 w in
    (is.0, rw same (written_front cells (length cells) is.1 w), (is.2.0, is.2.1 ∙ sym same))

pub returns : goal.returns
returns c = let cells = c.self.inside.row.cells in let lent = c.items_mut in let is = c.self.view_is in
    ((refl {a = lent.result.ghost_name}, λ w. written_items cells (length cells) c.self.invariant.1 w ∙ ap (λ l. refill (length l) l w) is), record { writes_back = tt; value = lent.ensures.value ∙ is })
