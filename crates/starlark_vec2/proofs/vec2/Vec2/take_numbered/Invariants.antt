use Rattle.starlark_hash.proofs.Common.{◌≡◌, ◌+◌, ◌≤◌, ◌++◌, ◌^◌, length, reverse, enumerate_from}
use Rattle.starlark_vec2.proofs.vec2.Vec2.take_numbered.Given as goal

abbrev pub invariant-loop-pair : goal.invariant-loop-pair
invariant-loop-pair g l = record {
  so_far : enumerate_from 0 l.self.pairs ++ reverse l.taken.items ≡ enumerate_from 0 l.fn.self.pairs;
  capacity : l.self.capacity ≡ l.fn.self.capacity;
  room : length l.self.pairs + l.taken.len ≤ l.taken.cap;
  few : length l.self.pairs ≤ 2 ^ 32;
}

abbrev pub decreases-loop-pair : goal.decreases-loop-pair
decreases-loop-pair g l = length l.self.pairs
