use Rattle.std.proofs.iter.Next as it
use Rattle.std.specs.Iterator.{EndsFrom, items_left, size}
use Rattle.starlark_small.proofs.Inserting.{IsFilled}
use Rattle.starlark_small.proofs.small_map.SmallMap.insert_entries.Given as goal

abbrev pub invariant-loop-entry : goal.invariant-loop-entry
invariant-loop-entry g l =
    it.Ran g.I.Iterator.can_next (EndsFrom g.I.Iterator.remaining) (items_left g.I.Iterator.remaining) g.I.Iterator.next_gives
    (λ xs. IsFilled g.K.PartialEq.eq (λ entry. entry) (size (g.I.Iterator.remaining l.initial.items)) l.initial.self xs l.self) l.initial.items l.items

abbrev pub decreases-loop-entry : goal.decreases-loop-entry
decreases-loop-entry g l = items_left g.I.Iterator.remaining l.items
