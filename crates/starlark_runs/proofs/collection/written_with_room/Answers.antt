use Rattle.starlark_hash.proofs.Common.{Ok}
use Rattle.starlark_small.specs.Map.{own_hashed}
use Rattle.starlark_runs.proofs.InsertionRoom.{HasRoom, HasRoom-inserted, IsOk-HasRoom}
use Rattle.starlark_runs.proofs.collection.written_with_room.Goals as goal

pub returns-clause-succeeds : goal.returns-clause-succeeds
returns-clause-succeeds g c = λ room.
    let eq = g.K.PartialEq.eq in
    let feeds = g.K.Hash.hash_input in
    let one : HasRoom 2 c.inserted-one.result =
    HasRoom-inserted eq (own_hashed feeds c.args.first.0) c.args.first.1 2 (Ok c.args.map) c.inserted-one.result room c.inserted-one.ensures.entries c.inserted-one.ensures.succeeds c.inserted-one.ensures.memory in
    let two : HasRoom 1 c.inserted-two.result =
    HasRoom-inserted eq (own_hashed feeds c.args.second.0) c.args.second.1 1 c.inserted-one.result c.inserted-two.result one c.inserted-two.ensures.entries c.inserted-two.ensures.succeeds c.inserted-two.ensures.memory in
    IsOk-HasRoom 0 c.inserted.result
    (HasRoom-inserted eq (own_hashed feeds c.args.third.0) c.args.third.1 0 c.inserted-two.result c.inserted.result two c.inserted.ensures.entries c.inserted.ensures.succeeds c.inserted.ensures.memory)
