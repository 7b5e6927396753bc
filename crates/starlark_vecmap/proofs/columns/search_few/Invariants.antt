use Rattle.starlark_hash.proofs.Common.{◌≡◌, ◌==◌, length, drop, map, ◌-◌, mask_l}
use Rattle.starlark_vecmap.proofs.HashMatches.{Reached}
use Rattle.starlark_vecmap.proofs.columns.search_few.Given as goal

abbrev pub invariant-loop-mask : goal.invariant-loop-mask
invariant-loop-mask g l =
    record {
      masked : l.mask ≡ mask_l (map (λ h. h == l.fn.hash.0) (drop l.i l.hashes));
      reached : Reached l.fn.hash g.F.FnMut l.pairs l.hashes l.initial.accepts l.accepts l.i;
    }

abbrev pub decreases-loop-mask : goal.decreases-loop-mask
decreases-loop-mask g l = length l.hashes - l.i
