-- The mask of the indices that the loop has passed.
use Rattle.starlark_hash.proofs.Common.{◌≡◌, ◌==◌, map, take, mask_l}
use Rattle.starlark_vecmap.proofs.hash_search.indices_of_few.Given as goal

abbrev pub invariant-loop-i : goal.invariant-loop-i
invariant-loop-i l = l.mask ≡ mask_l (map (λ h. h == l.fn.hash) (take l.i l.block))
