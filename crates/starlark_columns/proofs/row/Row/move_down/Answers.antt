use Rattle.std.proofs.Common.{◌∙◌, arith}
use Rattle.starlark_columns.proofs.CellsOfSlots.{in_filled, at_item, down}
use Rattle.starlark_columns.proofs.row.Row.move_down.Goals as goal

pub open-slots-requires-clause-any : goal.open-slots-requires-clause-any
open-slots-requires-clause-any g c = (in_filled c.args.self.now.cells c.args.from c.args.end c.args.from c.requires.items (omega arith) (omega (arith, c.requires.items.0))).0

pub move_within-requires : goal.move_within-requires
move_within-requires g c =
    let r = c.open-slots.result in let cs = c.args.self.now.cells in let full = c.requires.items in let gap = c.requires.gap in let len = c.open-slots.ensures.slots.1 in let count = c.requires.spot.1 in (
      omega (arith, full.0, full.1, len, count),
      omega (arith, full.0, full.1, gap.0, len, count),
      λ k le lt. let f = in_filled cs c.args.from c.args.end k full le (omega (arith, lt, full.0)) in
          (at_item r cs k f.0 c.open-slots.ensures.cells f.1).1,
    )

pub returns-then-from-end-clause-cells : goal.returns-then-from-end-clause-cells
returns-then-from-end-clause-cells g c =
    let r = c.open-slots.result in let s = c.move_within.new.self in let said = c.move_within.ensures in let same = said.places.count in
    let d = (in_filled c.args.self.now.cells c.args.from c.args.end c.args.from c.requires.items (omega arith) (omega (arith, c.requires.items.0))).0 in
    c.close.ensures.1 ∙ down r s c.args.self.now.cells d same c.open-slots.ensures.cells c.args.from c.args.end c.args.to c.requires.items c.requires.gap
    (λ k lt. said.moved k d lt) (λ k out. said.items d k out) said.filled.0 said.filled.1
