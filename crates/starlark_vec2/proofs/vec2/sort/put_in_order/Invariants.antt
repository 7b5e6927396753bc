use Rattle.starlark_hash.proofs.Common.{◌≡◌, ℕ, ◌+◌, ◌-◌, ◌<◌, length, get_or, zip}
use Rattle.starlark_vec2.proofs.InPlacePermutation.{Spread, misplaced}
use Rattle.starlark_vec2.proofs.vec2.sort.put_in_order.Given as goal

abbrev pub invariant-loop-index : goal.invariant-loop-index
invariant-loop-index g l = record {
  order_len : length l.order.items ≡ length l.initial.firsts;
  spread : Spread (length l.initial.firsts) l.order.items;
  placed : (k : ℕ) → k < l.index → get_or l.order.items k 0 ≡ k;
  placing : (k : ℕ) (d : g.row.A.Denot × g.row.B.Denot) → k < length l.order.items
      → get_or (zip l.firsts l.seconds) (get_or l.order.items k 0) d ≡ get_or (zip l.initial.firsts l.initial.seconds) (get_or l.initial.order.items k 0) d;
}

abbrev pub decreases-loop-index : goal.decreases-loop-index
decreases-loop-index g l = (length l.order.items - l.index) + misplaced 0 l.order.items
