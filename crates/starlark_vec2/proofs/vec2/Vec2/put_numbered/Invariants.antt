use Rattle.starlark_hash.proofs.Common.{◌≡◌, ◌+◌, ◌≤◌, ◌++◌, length, map}
use Rattle.starlark_vec2.proofs.vec2.Vec2.put_numbered.Given as goal

abbrev pub invariant-loop-next : goal.invariant-loop-next
invariant-loop-next g l = record {
  so_far : l.self.pairs ++ map (λ p. p.1) l.rest.rest.items ≡ map (λ p. p.1) l.fn.numbered.items;
  capacity : l.self.capacity ≡ l.fn.self.capacity;
  room : length l.self.pairs + l.rest.rest.len ≤ l.fn.self.capacity;
}

abbrev pub decreases-loop-next : goal.decreases-loop-next
decreases-loop-next g l = l.rest.rest.len
