use Rattle.starlark_hash.proofs.Common.{◌≡◌, length}
use Rattle.starlark_hash.specs.Entries.{IsSingle}
use Rattle.starlark_sets.specs.Difference.{difference, lacks, past}
use Rattle.starlark_sets.proofs.difference.next_lacking.Given as goal

abbrev pub invariant-loop-element : goal.invariant-loop-element
invariant-loop-element g l =
    let eq = g.T.PartialEq.eq in
    let other = l.fn.other.entries in
    (difference eq l.left other ≡ difference eq l.initial.left other)
    × (past (lacks eq other) l.left ≡ past (lacks eq other) l.initial.left)
    × (IsSingle eq l.initial.left → IsSingle eq l.left)

abbrev pub decreases-loop-element : goal.decreases-loop-element
decreases-loop-element g l = length l.left
