use Rattle.std.proofs.iter.Next as it
use Rattle.starlark_hash.proofs.Common.{EndsFrom, items_left}
use Rattle.starlark_table.specs.Table.{GrowsAsNeeded}
use Rattle.starlark_unordered.specs.Collect.{InsertsAll}
use Rattle.starlark_unordered.specs.Pairs.{pairs_of}
use Rattle.starlark_unordered.proofs.unordered_map.UnorderedMap.insert_items.Given as goal

abbrev pub invariant-loop-pair : goal.invariant-loop-pair
invariant-loop-pair g l =
    it.Ran g.I.Iterator.can_next (EndsFrom g.I.Iterator.remaining) (items_left g.I.Iterator.remaining) g.I.Iterator.next_gives
    (λ xs. InsertsAll g.K.PartialEq.eq (pairs_of l.initial.self) xs (pairs_of l.self) × GrowsAsNeeded l.initial.self l.self) l.initial.items l.items

abbrev pub decreases-loop-pair : goal.decreases-loop-pair
decreases-loop-pair g l = items_left g.I.Iterator.remaining l.items
