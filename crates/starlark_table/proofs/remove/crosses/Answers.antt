use Rattle.starlark_hash.proofs.Common.{arith, nat_tests}
use Rattle.starlark_table.proofs.remove.crosses.Goals as goal

pub returns-then-is_far-clause-yes : goal.returns-then-is_far-clause-yes
returns-then-is_far-clause-yes g c = λ less.
    let its = rw c.cells-count.ensures.cells at c.home_among-home.ensures in
    let to_hole = c.distance.ensures in
    let to_slot = c.distance-then-is_far.ensures in
    record {
      hash = c.get.result.now.0;
      item = c.get.result.now.1;
      there = c.get.ensures;
      far = rw (← its) (c.is_far.ensures.yes c.if-is_far.true);
      over = grind (arith, nat_tests);
    }
