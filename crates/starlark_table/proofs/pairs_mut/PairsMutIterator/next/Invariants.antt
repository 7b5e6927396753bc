use Rattle.starlark_hash.proofs.Common.{◌≡◌, ◌+◌, length}
use Rattle.starlark_table.specs.Table.{filled, items_in}
use Rattle.starlark_table.proofs.pairs_mut.PairsMutIterator.next.Given as goal

-- the iterator has passed over empty slots only
abbrev pub invariant-loop-self : goal.invariant-loop-self
invariant-loop-self g l =
    (l.self-inside.slot ≡ l.self-inside.loan.from) × (l.self-inside.end ≡ l.self-inside.loan.from + length l.self-inside.loan.rest)
    × (l.end ≡ l.self-inside.end) × (l.self-inside.left ≡ length (filled l.self-inside.loan.rest)) × (items_in l.self-inside.loan.rest ≡ l.fn.self.0) × (l.self-inside.loan.tie ≡ l.fn.self.1)

abbrev pub decreases-loop-self : goal.decreases-loop-self
decreases-loop-self g l = length l.self-inside.loan.rest
