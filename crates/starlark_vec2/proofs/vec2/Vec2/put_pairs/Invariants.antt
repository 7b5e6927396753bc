use Rattle.starlark_hash.proofs.Common.{◌≡◌, ◌+◌, ◌≤◌, ◌++◌, length}
use Rattle.starlark_vec2.proofs.vec2.Vec2.put_pairs.Given as goal

abbrev pub invariant-loop-pair : goal.invariant-loop-pair
invariant-loop-pair g l = record {
  so_far : l.self.pairs ++ l.rest.rest.items ≡ l.fn.pairs.items;
  capacity : l.self.capacity ≡ l.fn.self.capacity;
  room : length l.self.pairs + l.rest.rest.len ≤ l.fn.self.capacity;
}

abbrev pub decreases-loop-pair : goal.decreases-loop-pair
decreases-loop-pair g l = l.rest.rest.len
