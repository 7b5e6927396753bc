use Rattle.starlark_hash.proofs.Common.{◌≡◌, ℕ, ◌-◌, ◌*◌, ◌^◌, ◌≤◌}
use Rattle.starlark_table.specs.Growth.{limit, most_for}
use Rattle.starlark_table.proofs.growth.slots_for.Given as goal

abbrev pub invariant-loop-count : goal.invariant-loop-count
invariant-loop-count l = record {
  low : 8 ≤ l.count;
  fits : l.count ≤ 2 ^ 62;
  most : limit l.count ≤ most_for l.needed;
  doubled : (k : ℕ) × (l.count ≡ 8 * 2 ^ k);
  fewest : (k : ℕ) → l.needed ≤ limit (8 * 2 ^ k) → l.count ≤ 8 * 2 ^ k;
}

abbrev pub decreases-loop-count : goal.decreases-loop-count
decreases-loop-count l = 2 ^ 63 - l.count
