use Rattle.starlark_runs.proofs.RoomLemmas.{AcceptsReserved-of_ceiling}
use Rattle.starlark_runs.specs.Run.{Shows}
use Rattle.starlark_runs.proofs.room.reserved_insertions_succeed.Goals as goal

pub returns-clause-next : goal.returns-clause-next
returns-clause-next g c =
    AcceptsReserved-of_ceiling g.K.PartialEq.eq g.K.Ord.cmp (Shows g.F.Fn c.args.look) c.args.map.now c.args.commands.items c.in_ok-replies.replies.items c.run.new.map.entries c.in_ok-replies.ensures.refused
