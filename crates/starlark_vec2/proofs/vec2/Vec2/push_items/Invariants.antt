use Rattle.starlark_hash.proofs.Common.{◌≡◌, ◌+◌, ◌≤◌, length, EndsFrom, items_left}
use Rattle.std.proofs.iter.Next as it
use Rattle.starlark_vec2.specs.Growth.{push_all}
use Rattle.starlark_vec2.proofs.vec2.Vec2.push_items.Given as goal

abbrev pub invariant-loop-pair : goal.invariant-loop-pair
invariant-loop-pair g l =
    it.Ran g.I.Iterator.can_next (EndsFrom g.I.Iterator.remaining) (items_left g.I.Iterator.remaining) g.I.Iterator.next_gives
    (λ ps. (l.self ≡ push_all l.initial.self ps) × (length l.self.pairs ≡ length l.initial.self.pairs + length ps) × (l.initial.self.capacity ≤ l.self.capacity)) l.initial.items l.items

abbrev pub decreases-loop-pair : goal.decreases-loop-pair
decreases-loop-pair g l = items_left g.I.Iterator.remaining l.items
