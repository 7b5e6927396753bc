use Rattle.starlark_hash.proofs.Common.{◌≡◌, length}
use Rattle.starlark_map.specs.SortedUnion.{drop_while, is_passed}
use Rattle.starlark_map.proofs.union.next_before.Given as goal

abbrev pub invariant-loop-element : goal.invariant-loop-element
invariant-loop-element g l =
    let p = is_passed g.T.PartialEq.eq g.T.Ord.cmp l.fn.left l.fn.there.entries in
    drop_while p l.right ≡ drop_while p l.initial.right

abbrev pub decreases-loop-element : goal.decreases-loop-element
decreases-loop-element g l = length l.right
