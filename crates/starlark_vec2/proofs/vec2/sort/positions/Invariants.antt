use Rattle.starlark_hash.proofs.Common.{◌≡◌, ◌≤◌, length, vec_capacity, range_with_len}
use Rattle.starlark_vec2.proofs.vec2.sort.positions.Given as goal

abbrev pub invariant-loop-i : goal.invariant-loop-i
invariant-loop-i l = record {
  so_far : l.all.items ≡ range_with_len 0 l.i;
  count : length l.all.items ≡ l.i;
  room : l.n ≤ vec_capacity l.all;
}
