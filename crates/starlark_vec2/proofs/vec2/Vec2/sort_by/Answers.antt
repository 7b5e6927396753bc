use Rattle.starlark_hash.proofs.Common.{◌≡◌, length, ap, arith}
use Rattle.starlark_vec2.specs.Sort.{PutsInOrder}
use Rattle.starlark_vec2.proofs.Positions.{sorted_by-short, sorted_by-from_order, IsPermutation-from_order}
use Rattle.starlark_vec2.proofs.TwoColumns.{both_relaid, both_moved, len_is}
use Rattle.starlark_vec2.proofs.vec2.Vec2.sort_by.Goals as goal

pub returns-then-len-lt2-clause-sorted : goal.returns-then-len-lt2-clause-sorted
returns-then-len-lt2-clause-sorted g c = λ lt weak h. sorted_by-short lt c.args.self.now.pairs (omega (arith, c.if-len-lt2.true, c.len.ensures.len))

pub put_in_order-requires-clause-positions : goal.put_in_order-requires-clause-positions
put_in_order-requires-clause-positions g c =
    let count : length c.args.self.now.pairs ≡ length c.items_mut.result.now = omega (arith, len_is _ _ _ c.self.invariant.0 _ c.self.view_is, c.self.invariant.0.firsts_front.count, ap length c.items_mut.ensures.value) in
    rw count at c.in_ok-order.ensures.positions

pub invariant_of-self : goal.invariant_of-self
invariant_of-self g c = both_relaid c.self.inside c.self.invariant c.put_in_order.new.firsts c.put_in_order.new.seconds

pub returns-clause-sorted : goal.returns-clause-sorted
returns-clause-sorted g c = λ lt weak h.
    sorted_by-from_order lt weak c.args.self.now.pairs c.in_ok-order.order.items _ (c.in_ok-order.ensures.sorted lt weak h)
    (both_moved _ _ _ c.self.invariant.0 _ c.self.view_is _ _ _ _ c.items_mut.ensures.value c.items_mut-2.ensures.value c.put_in_order.auto.firsts c.put_in_order.auto.seconds (λ ps qs. PutsInOrder ps c.in_ok-order.order.items qs) c.put_in_order.ensures)

pub returns-clause-rearranged : goal.returns-clause-rearranged
returns-clause-rearranged g c =
    IsPermutation-from_order c.args.self.now.pairs c.in_ok-order.order.items _ c.in_ok-order.ensures.positions
    (both_moved _ _ _ c.self.invariant.0 _ c.self.view_is _ _ _ _ c.items_mut.ensures.value c.items_mut-2.ensures.value c.put_in_order.auto.firsts c.put_in_order.auto.seconds (λ ps qs. PutsInOrder ps c.in_ok-order.order.items qs) c.put_in_order.ensures)
