use Rattle.starlark_hash.proofs.Common.{◌≡◌, ℕ, ◌<◌, ◌≤◌, ◌^◌, length, get_or, map}
use Rattle.starlark_vec2.proofs.InPlacePermutation.{Spread}
use Rattle.starlark_vec2.proofs.vec2.sort_moves.note_moves.Given as goal

abbrev pub invariant-loop-j : goal.invariant-loop-j
invariant-loop-j g l = record {
  spread : Spread (length l.initial.to) (map (λ p. p.0) l.numbered);
  count : length l.numbered ≡ length l.initial.to;
  few : length l.numbered ≤ 2 ^ 32;
  noted : (k : ℕ) → k < l.j → get_or l.to (get_or (map (λ p. p.0) l.numbered) k 0) 0 ≡ k;
}
