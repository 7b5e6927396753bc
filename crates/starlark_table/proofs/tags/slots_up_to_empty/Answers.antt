use Rattle.starlark_hash.proofs.Common.{bit_and, ◌≡◌, ℕ, suc, ◌+◌, ◌-◌, ◌*◌, ◌%◌, ◌^◌, ◌<◌, arith, count_trailing_zeros}
use Rattle.std.proofs.Common.{pow_pos, pow_mono}
use Rattle.std.proofs.Math.Nat.{two-pow-succ}
use Rattle.std.proofs.lemmas.Nat.{and_mask}
use Rattle.starlark_table.specs.Layout.{tag_bits, empty_tag}
use Rattle.starlark_table.proofs.TagBits.{none-by_bits, first-by_bits, tag_bits-front}
use Rattle.starlark_table.proofs.tags.slots_up_to_empty.Goals as goal

one_bit : (k : ℕ) → k < 16 → 1 * 2 ^ k % 2 ^ 64 ≡ 2 ^ k
one_bit k low = omega (arith, two-pow-succ k, pow_pos k, pow_mono {i = suc k} {j = 64} (omega arith))

pub returns-then-empty-eq0 : goal.returns-then-empty-eq0
returns-then-empty-eq0 c =
    grind (arith, c.args.start + 16, c.slots_with-same.ensures, none-by_bits empty_tag c.args.tags.now c.args.start 16 _ c.slots_with-empty.ensures c.if-empty-eq0.true)

pub returns : goal.returns
returns c =
    let k = count_trailing_zeros 64 c.slots_with-empty.result in
    let first = first-by_bits empty_tag c.args.tags.now c.args.start 16 _ c.slots_with-empty.ensures (omega arith) c.if-empty-eq0.false in
    let within = first.within in
    let reach : k ≡ c.args.start + k - c.args.start = omega arith in
    let its : bit_and c.slots_with-same.result (1 * 2 ^ k % 2 ^ 64 - 1) ≡ tag_bits c.args.tag c.args.tags.now c.args.start (c.args.start + k - c.args.start) =
    rw (one_bit k within, and_mask c.slots_with-same.result k, c.slots_with-same.ensures, ← reach) (tag_bits-front c.args.tag _ c.args.start k (16 - k) 16 (omega arith)) in
    grind (arith, c.args.start + k, its, first)
