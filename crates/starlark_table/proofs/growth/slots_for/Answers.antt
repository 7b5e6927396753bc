use Rattle.starlark_hash.proofs.Common.{◌≡◌, ℕ, suc, ◌*◌, ◌^◌, ◌<◌, ◌≤◌, arith, refl, cases_lt}
use Rattle.std.proofs.Math.Nat.{pow-le-pow_right}
use Rattle.std.proofs.lemmas.Nat.{pow_pos}
use Rattle.starlark_table.specs.Growth.{limit, most_for}
use Rattle.starlark_table.proofs.growth.slots_for.Goals as goal

-- if `count` slots are too few, twice as many are not too many
twice : (count needed eighths : ℕ) → count ≡ 8 * eighths → limit count < needed → limit (count * 2) ≤ most_for needed
twice count needed eighths is less = omega (arith, is, less)

-- no smaller number of slots, eight times a power of two, holds as many members
fewest-twice : (count needed d k : ℕ) → count ≡ 8 * 2 ^ d → limit count < needed → needed ≤ limit (8 * 2 ^ k) → count * 2 ≤ 8 * 2 ^ k
fewest-twice count needed d k is less enough =
    let low = λ (few : k ≤ d). pow-le-pow_right {n = 2} (omega arith) few in
    let high = λ (many : suc d ≤ k). pow-le-pow_right {n = 2} (omega arith) many in
    grind (arith, cases_lt d k, low, high)

pub loop-count-init : goal.loop-count-init
loop-count-init c = record {
  low = omega arith;
  fits = omega arith;
  most = omega arith;
  doubled = (0, refl);
  fewest = λ k enough. omega (arith, pow_pos k);
}

pub loop-count-preserved : goal.loop-count-preserved
loop-count-preserved c =
    let before = c.loop-count.invariant in
    let test = c.loop-count-test.true in
    let less : limit c.loop-count.count < c.args.needed = omega (arith, c.limit.ensures, test) in
    let d = before.doubled in
    record {
      low = omega (arith, before.low);
      fits = omega (arith, before.low, before.fits, less, c.if-needed.false);
      most = twice c.loop-count.count c.args.needed (2 ^ d.0) d.1 less;
      doubled = (suc d.0, omega (arith, d.1));
      fewest = λ k enough. fewest-twice c.loop-count.count c.args.needed d.0 k d.1 less enough;
    }
