use Rattle.starlark_hash.proofs.Common.{◌++◌, ap, ◌∙◌, reverse, rules, arith, common_steps, enumerate_from}
use Rattle.starlark_vec2.proofs.NumberedItems.{numbered-taken}
use Rattle.starlark_vec2.proofs.vec2.Vec2.take_numbered.Goals as goal

pub loop-pair-preserved : goal.loop-pair-preserved
loop-pair-preserved g c = record {
  so_far = ap (λ l. enumerate_from 0 c.pop.new.self.pairs ++ reverse l) c.push_reserved.ensures.items
      ∙ numbered-taken _ c.pop.new.self.pairs c.in-Some.pair c.loop-pair.taken.items _ c.len-in-Some.result c.in-Some.ensures.taken c.len-in-Some.ensures.len c.loop-pair.invariant.so_far;
  capacity = search rules;
  room = grind (arith, common_steps);
  few = grind (arith, common_steps);
}
