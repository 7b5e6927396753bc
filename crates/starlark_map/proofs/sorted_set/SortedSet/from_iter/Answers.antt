use Rattle.starlark_hash.proofs.Common.{[], is_some, map, ap, ◌∙◌}
use Rattle.starlark_small.specs.Collect.{insert_all}
use Rattle.starlark_sets.specs.Collect.{own_element}
use Rattle.starlark_map.proofs.AscendingLists.{Ascends-empty}
use Rattle.starlark_hash.specs.Hasher.{own_hash}
use Rattle.starlark_map.proofs.sorted_set.SortedSet.from_iter.Goals as goal

pub returns-in-Ok-clause-found : goal.returns-in-Ok-clause-found
returns-in-Ok-clause-found g c =
    let found = c.in_ok-set.ensures.made.found in
    (found.0, found.1, (found.2.0, found.2.1, found.2.2, λ key. ap is_some (c.in-Ok.ensures.same (own_hash g.T.Hash.hash_input key) key) ∙ found.2.3 key))

pub returns-clause-succeeds : goal.returns-clause-succeeds
returns-clause-succeeds g c = λ nothing.
    let made = c.in_ok-set.ensures.made.set in
    let none = ap (λ items. insert_all g.T.PartialEq.eq [] (map (own_element g.T.Hash.hash_input) items)) ((nothing made.it made.made).1 made.items made.drained) in
    c.in-Err.ensures.succeeds (Ascends-empty g.T.Ord.cmp c.in_ok-set.set.entries (made.entries ∙ none))
