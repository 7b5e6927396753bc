use Rattle.std.proofs.Common.{[], get_or, sym, ap, subst, refl, ◌∙◌, arith}
use Rattle.std.specs.List.{AllZip}
use Rattle.starlark_columns.specs.Cells.{items_of}
use Rattle.std.proofs.lemmas.List.{nil_from_length}
use Rattle.std.proofs.lemmas.List.Elements.{all_zip_more}
use Rattle.starlark_columns.proofs.row.Row.clone_items.Goals as goal

pub loop-made-init : goal.loop-made-init
loop-made-init g c = (c.requires.empty, refl, subst (λ l. AllZip g.T.Clone.is_clone [] l) (sym (nil_from_length (items_of c.args.to.now.cells) c.requires.empty.count)) tt, refl)

pub loop-made-preserved : goal.loop-made-preserved
loop-made-preserved g c = let at = c.loop-made in let put = c.push_last.ensures in let item = c.index-items-made.result in
    let here = c.index-items-made.is ∙ ap (λ l. get_or l at.made item) c.items-items.ensures in (
      put.front,
      put.cells ∙ at.invariant.1,
      rw put.items (all_zip_more g.T.Clone.is_clone (items_of c.args.self.now.cells) (items_of at.to.cells) at.made item c.in-Ok.item
          (omega (arith, c.loop-made-test.true, c.requires.front.count)) here at.invariant.2 c.in-Ok.ensures.cases),
      put.at ∙ at.invariant.3,
    )
