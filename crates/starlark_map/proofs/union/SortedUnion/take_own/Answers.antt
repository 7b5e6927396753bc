use Rattle.starlark_map.proofs.UnionLookup.{Follows-taken}
use Rattle.starlark_map.proofs.union.SortedUnion.take_own.Goals as goal

pub invariant_of-self-2 : goal.invariant_of-self-2
invariant_of-self-2 g c =
    (c.self.invariant.0, Follows-taken c.self.inside.last c.in_ok-element.element c.take.new.self c.self.inside.left c.self.inside.there.now.entries c.in_ok-element.ensures c.self.invariant.1)
