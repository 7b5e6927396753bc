use Rattle.starlark_hash.proofs.Common.{[], ◌∷◌, IfOk-weaker}
use Rattle.starlark_small.specs.Collect.{insert_all, own_entry}
use Rattle.starlark_runs.proofs.InsertionRoom.{entries-inserted}
use Rattle.starlark_runs.proofs.collection.written_in_order.Goals as goal

pub returns : goal.returns
returns g c =
    let eq = g.K.PartialEq.eq in
    let feeds = g.K.Hash.hash_input in
    let first = own_entry feeds c.args.first in
    let second = own_entry feeds c.args.second in
    let third = own_entry feeds c.args.third in
    entries-inserted eq (insert_all eq [] (first ∷ second ∷ [])) third.0 third.1 _ _
    (entries-inserted eq (insert_all eq [] (first ∷ [])) second.0 second.1 _ _
    (entries-inserted eq [] first.0 first.1 _ _ (IfOk-weaker c.smallmap-with_capacity.result _ _ (λ m p. p.entries) c.smallmap-with_capacity.ensures.empty) c.smallmap-inserted.ensures.entries)
    c.smallmap-inserted-2.ensures.entries)
    c.smallmap-inserted-3.ensures.entries
