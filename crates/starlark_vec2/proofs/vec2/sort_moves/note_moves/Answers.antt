use Rattle.starlark_hash.proofs.Common.{◌≡◌, length, sym, ◌∙◌, refl, arith, length-map, get_or-map, length-range_with_len, length_permutation}
use Rattle.starlark_vec2.proofs.NumberedItems.{noted-more, noted-all}
use Rattle.starlark_vec2.proofs.InPlacePermutation.{Spread-from_permutation}
use Rattle.starlark_vec2.proofs.vec2.sort_moves.note_moves.Goals as goal

pub loop-j-init : goal.loop-j-init
loop-j-init g c =
    let count : length c.args.numbered.now ≡ length c.args.to.now = grind (arith, length-map c.args.numbered.now (λ p. p.0), length_permutation _ _ c.requires.indices, length-range_with_len) in
    record { spread = Spread-from_permutation _ _ c.requires.indices; count = count; few = omega (arith, c.requires.few); noted = λ k lt. absurd (omega arith) }

pub bounds-to-index : goal.bounds-to-index
bounds-to-index g c =
    let at = c.loop-j in
    let index = get_or-map (λ p. p.0) c.args.numbered.now at.j c.index-numbered-j.result 0 c.loop-j-test.true in
    omega (arith, index, at.invariant.spread.below at.j (omega (arith, length-map c.args.numbered.now (λ p. p.0), c.loop-j-test.true)), at.auto.to)

pub loop-j-preserved : goal.loop-j-preserved
loop-j-preserved g c =
    let at = c.loop-j in
    let inv = at.invariant in
    let xs = c.args.numbered.now in
    let index = get_or-map (λ p. p.0) xs at.j c.index-numbered-j.result 0 c.loop-j-test.true in
    record {
      spread = inv.spread;
      count = inv.count;
      few = inv.few;
      noted = noted-more _ _ _ _ at.j _ inv.spread at.auto.to (omega (arith, length-map xs (λ p. p.0), c.loop-j-test.true)) (sym index) refl inv.noted;
    }

pub returns : goal.returns
returns g c =
    let at = c.loop-j in
    let inv = at.invariant in
    noted-all _ _ _ inv.spread at.auto.to (length-map c.args.numbered.now (λ p. p.0) ∙ inv.count) (λ k lt. inv.noted k (omega (arith, lt, inv.count, c.loop-j-test.false)))
