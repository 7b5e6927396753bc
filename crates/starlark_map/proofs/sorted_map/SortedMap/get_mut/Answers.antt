use Rattle.starlark_small.specs.Map.{own_match}
use Rattle.starlark_map.proofs.AscendingLists.{Ascends-with_value}
use Rattle.starlark_map.proofs.sorted_map.SortedMap.get_mut.Goals as goal

pub invariant_of-self-lent : goal.invariant_of-self-lent
invariant_of-self-lent g c = λ _.
    let es = c.self.inside.map.entries in
    let index = own_match g.Q.Query.stands_for g.Q.Hash.hash_input es c.args.key in
    let lent = c.get_mut.follows in
    ((λ w. rw (lent.holds w).0 (Ascends-with_value g.K.Ord.cmp es index w c.self.invariant)), rw lent.holds-at-none c.self.invariant)
