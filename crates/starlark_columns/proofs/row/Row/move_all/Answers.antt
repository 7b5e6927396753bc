use Rattle.std.proofs.Common.{◌≡◌, ◌+◌, ◌++◌, ℕ, take, drop, slice_range, length, ap, ◌∙◌, arith}
use Rattle.starlark_columns.proofs.CellsOfSlots.{in_filled, at_item, gone, filled_in, run_items, after_count}
use Rattle.starlark_columns.proofs.ItemsAtFront.{front_full, front_filled, front_gone, front_come, none_at_front}
use Rattle.starlark_columns.proofs.row.Row.move_all.Goals as goal

pub open-slots-requires-clause-any : goal.open-slots-requires-clause-any
open-slots-requires-clause-any g c = (front_filled c.args.self.now.cells c.args.len c.requires.front 0 (omega arith)).0

pub open-others-requires-clause-any : goal.open-others-requires-clause-any
open-others-requires-clause-any g c = (front_filled c.args.self.now.cells c.args.len c.requires.front 0 (omega arith)).0

pub move_run-requires : goal.move_run-requires
move_run-requires g c =
    let r = c.open-slots.result in let cs = c.args.self.now.cells in let full = front_full cs c.args.len c.requires.front in (
      omega (arith, full.1, c.open-slots.ensures.slots.1, c.requires.spot.1),
      omega (arith, c.requires.room, c.open-others.ensures.slots.1, c.requires.other.1),
      λ k le lt. let f = in_filled cs 0 c.args.len k full le (omega (arith, lt)) in (at_item r cs k f.0 c.open-slots.ensures.cells f.1).1,
    )

pub returns-then-len-ne0 : goal.returns-then-len-ne0
returns-then-len-ne0 g c =
    let r = c.open-slots.result in let o = c.open-others.result in let s = c.move_run.new.self in let t = c.move_run.new.other in let said = c.move_run.ensures in
    let cs = c.args.self.now.cells in let ds = c.args.to.now.cells in let len = c.args.len in let front = c.requires.front in let full = front_full cs len front in let d = (front_filled cs len front 0 (omega arith)).0 in
    let high : 0 + len ≡ len = omega arith in let left = c.close.new.self.cells in
    let run = run_items r cs d 0 len c.open-slots.ensures.cells full in let xs = slice_range r.items 0 len in
    let items : t.items ≡ take 0 o.items ++ xs ++ drop (0 + len) o.items = said.items ∙ ap (λ (k : ℕ). slice_range r.items 0 k ++ drop (0 + len) o.items) high in
    let gone_here = gone r s cs d said.places.0.count c.open-slots.ensures.cells 0 len full said.left.0 (λ k out. said.left.1 k (grind arith)) in
    let come = front_come cs len front c.close-then-len-ne0.new.self.cells ds xs (none_at_front ds c.requires.empty) c.requires.room run.1 (c.close-then-len-ne0.ensures.1
    ∙ filled_in o t ds d said.places.1.count c.open-others.ensures.cells 0 len xs (run.0 ∙ omega arith) (omega (arith, c.requires.room)) items said.filled.0 said.filled.1) in record {
      left = front_gone cs len front left (c.close.ensures.1 ∙ gone_here);
      front = come.0;
      items = come.1;
      cells = (
        ap length c.close.ensures.1 ∙ after_count r s cs d said.places.0.count c.open-slots.ensures.cells 0 len,
        ap length c.close-then-len-ne0.ensures.1 ∙ after_count o t ds d said.places.1.count c.open-others.ensures.cells 0 0,
      );
      at = (c.close.ensures.0 ∙ c.open-slots.ensures.left.0, c.close-then-len-ne0.ensures.0 ∙ c.open-others.ensures.left.0);
    }
