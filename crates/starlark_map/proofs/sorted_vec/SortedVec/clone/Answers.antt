use Rattle.starlark_map.proofs.AscendingLists.{IsSorted-clones}
use Rattle.starlark_map.proofs.sorted_vec.SortedVec.clone.Goals as goal

pub invariant_of-result : goal.invariant_of-result
invariant_of-result g c =
    IsSorted-clones g.met.T.Ord.total g.met.T.Ord.matches_eq g.T.Clone.is_clone c.requires
    c.self.inside.vec.items c.in_ok-clone.field-0.items c.in_ok-clone.ensures.cases.0 c.self.invariant
