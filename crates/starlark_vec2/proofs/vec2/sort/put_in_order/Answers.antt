use Rattle.starlark_hash.proofs.Common.{◌≡◌, ◌<◌, length, zip, refl, sym, ◌∙◌, arith, length-range_with_len, length_permutation}
use Rattle.std.proofs.lemmas.Slice.Zip.{length-zip}
use Rattle.starlark_vec2.proofs.InPlacePermutation.{Spread_stays, Spread-from_permutation, fewer_misplaced, placed_stay, placing_step, zip-swap, PutsInOrder-from_placed}
use Rattle.starlark_vec2.proofs.vec2.sort.put_in_order.Goals as goal

pub loop-index-init : goal.loop-index-init
loop-index-init g c = record {
  order_len = length_permutation _ _ c.requires.positions ∙ length-range_with_len 0 (length c.args.firsts.now);
  spread = Spread-from_permutation _ c.args.order.items c.requires.positions;
  placed = λ k lt. absurd (omega arith);
  placing = λ k d lt. refl;
}

pub loop-index-smaller : goal.loop-index-smaller
loop-index-smaller g c =
    let at = c.loop-index in
    let inv = at.invariant in
    let within : at.index < length at.order.items = omega (arith, c.loop-index-test.true, c.len.ensures, at.order.ok.0) in
    let told = c.swap-else-from-index-2 in
    let fewer = fewer_misplaced _ _ _ _ _ _ inv.spread inv.order_len within c.index-from.ensures c.index-next.ensures told.ensures.items c.if-from-index.false in
    omega (arith, fewer, told.ensures.len, told.new.self.ok.0, at.order.ok.0)

pub loop-index-preserved : goal.loop-index-preserved
loop-index-preserved g c =
    let at = c.loop-index in
    let inv = at.invariant in
    let within : at.index < length at.order.items = omega (arith, c.loop-index-test.true, c.len.ensures, at.order.ok.0) in
    let from = c.index-from.ensures in
    let next = c.index-next.ensures in
    let told = c.swap-else-from-index-2 in
    let other = c.if-from-index.false in
    let even : length at.firsts ≡ length at.seconds = cc (c.requires.even) in
    let moved = (λ j. zip (c.swap.ensures.after j) (c.swap-else-from-index.ensures.after j)) ∙ zip-swap at.firsts at.seconds _ _ even in
    record {
      order_len = omega (arith, told.ensures.len, told.new.self.ok.0, at.order.ok.0, inv.order_len);
      spread = Spread_stays _ _ _ _ _ _ inv.spread inv.order_len within from next told.ensures.items other;
      placed = placed_stay _ _ _ _ _ _ inv.spread inv.order_len within from next told.ensures.items other inv.placed;
      placing = placing_step _ _ _ _ _ _ inv.spread inv.order_len within from next told.ensures.items other
          _ c.args.order.items _ _ (omega (arith, length-zip at.firsts at.seconds, even, at.auto.firsts)) moved inv.placing;
    }

pub returns : goal.returns
returns g c =
    let at = c.loop-index in
    let xs = c.args.firsts.now in
    let ys = c.args.seconds.now in
    let total = length_permutation _ _ c.requires.positions ∙ length-range_with_len 0 (length xs) in
    let long : length (zip xs ys) ≡ length xs = omega (arith, length-zip xs ys, c.requires.even) in
    PutsInOrder-from_placed _ _ _ _ (omega (arith, length-zip at.firsts at.seconds, at.auto.firsts, at.auto.seconds, c.requires.even, total)) (at.invariant.order_len ∙ sym total)
    (rw long (Spread-from_permutation _ _ c.requires.positions)) (λ k lt. at.invariant.placed k (omega (arith, c.loop-index-test.false, c.len.ensures, at.order.ok.0))) at.invariant.placing
