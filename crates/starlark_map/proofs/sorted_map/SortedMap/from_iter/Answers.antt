use Rattle.starlark_hash.proofs.Common.{[], map, ap, ◌∙◌}
use Rattle.starlark_small.specs.Collect.{insert_all, own_entry}
use Rattle.starlark_map.proofs.AscendingLists.{Ascends-empty}
use Rattle.starlark_hash.specs.Hasher.{own_hash}
use Rattle.starlark_map.proofs.sorted_map.SortedMap.from_iter.Goals as goal

pub returns-clause-succeeds : goal.returns-clause-succeeds
returns-clause-succeeds g c = λ nothing.
    let made = c.in_ok-map.ensures.made.map in
    let none = ap (λ items. insert_all g.K.PartialEq.eq [] (map (own_entry g.K.Hash.hash_input) items)) ((nothing made.it made.made).1 made.items made.drained) in
    c.in-Err.ensures.succeeds (Ascends-empty g.K.Ord.cmp c.in_ok-map.map.entries (made.entries ∙ none))

pub returns-in-Ok-clause-found : goal.returns-in-Ok-clause-found
returns-in-Ok-clause-found g c =
    let found = c.in_ok-map.ensures.found in
    (found.0, found.1, (found.2.0, found.2.1, found.2.2, λ key. c.in-Ok.ensures.same (own_hash g.K.Hash.hash_input key) key ∙ found.2.3 key))
