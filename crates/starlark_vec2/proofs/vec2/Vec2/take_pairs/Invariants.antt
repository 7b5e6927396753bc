use Rattle.starlark_hash.proofs.Common.{◌≡◌, ◌+◌, ◌≤◌, ◌++◌, length, reverse}
use Rattle.starlark_vec2.proofs.vec2.Vec2.take_pairs.Given as goal

abbrev pub invariant-loop-pair : goal.invariant-loop-pair
invariant-loop-pair g l = record {
  so_far : l.self.pairs ++ reverse l.taken.items ≡ l.fn.self.pairs;
  capacity : l.self.capacity ≡ l.fn.self.capacity;
  room : length l.self.pairs + l.taken.len ≤ l.taken.cap;
}

abbrev pub decreases-loop-pair : goal.decreases-loop-pair
decreases-loop-pair g l = length l.self.pairs
