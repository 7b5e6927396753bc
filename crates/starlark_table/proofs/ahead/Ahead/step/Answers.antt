use Rattle.starlark_hash.proofs.Common.{◌+◌, ◌∙◌, refl, arith, rules, count_trailing_zeros}
use Rattle.starlark_table.proofs.FilledSlots.{filled-first_behind, filled-past_range}
use Rattle.starlark_table.proofs.BackwardShift.{full_in_range}
use Rattle.starlark_table.proofs.FullBits.{window_next}
use Rattle.starlark_table.proofs.TagCount.{long_tags}
use Rattle.starlark_table.proofs.ahead.Ahead.step.Goals as goal

pub overflow_add-slot : goal.overflow_add-slot
overflow_add-slot g c =
    let inside = full_in_range c.args.slots.now (c.open.new.self.start + count_trailing_zeros 64 c.open.new.self.full) _
    (window_next _ _ _ _ _ _ c.open.ensures.left c.open.ensures.some refl).here in
    let long = long_tags c.args.tags.now c.args.slots.now c.requires.tagged.sized (omega (arith, inside)) in
    search (rules, long, inside)

pub overflow_add-self : goal.overflow_add-self
overflow_add-self g c =
    let inside = full_in_range c.args.slots.now (c.open.new.self.start + count_trailing_zeros 64 c.open.new.self.full) _
    (window_next _ _ _ _ _ _ c.open.ensures.left c.open.ensures.some refl).here in
    let long = long_tags c.args.tags.now c.args.slots.now c.requires.tagged.sized (omega (arith, inside)) in
    search (rules, long, inside)

pub returns : goal.returns
returns g c =
    let opened = c.open.ensures in
    let next = window_next _ _ _ _ _ _ opened.left opened.some refl in
    let front = filled-past_range _ _ _ opened.behind opened.passed ∙ filled-first_behind _ _ _ next.member next.ahead next.passed next.here in
    record {
      passed = λ p low high. grind (arith, opened.passed p, next.passed p);
      full = (next.member, next.here);
      front = rw next.here front;
      behind = omega (arith, next.ahead, opened.behind);
      next = search rules;
      left = next.on;
    }
