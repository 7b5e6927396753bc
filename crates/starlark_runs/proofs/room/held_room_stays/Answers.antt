use Rattle.starlark_runs.proofs.RoomLemmas.{AcceptsUpTo-start, AcceptsWhatItHeld-of_ceiling, AcceptsWhatItReserved-of_ceiling}
use Rattle.starlark_runs.specs.Run.{Shows}
use Rattle.starlark_runs.proofs.room.held_room_stays.Goals as goal

pub returns-clause-start : goal.returns-clause-start
returns-clause-start g c =
    AcceptsUpTo-start g.K.PartialEq.eq g.K.Ord.cmp (Shows g.F.Fn c.args.look) c.args.map.now c.args.commands.items c.in_ok-replies.replies.items c.run.new.map.entries c.in_ok-replies.ensures.refused

pub returns-clause-held : goal.returns-clause-held
returns-clause-held g c =
    AcceptsWhatItHeld-of_ceiling g.K.PartialEq.eq g.K.Ord.cmp (Shows g.F.Fn c.args.look) c.args.map.now c.args.commands.items c.in_ok-replies.replies.items c.run.new.map.entries c.in_ok-replies.ensures.refused

pub returns-clause-reserved : goal.returns-clause-reserved
returns-clause-reserved g c =
    AcceptsWhatItReserved-of_ceiling g.K.PartialEq.eq g.K.Ord.cmp (Shows g.F.Fn c.args.look) c.args.map.now c.args.commands.items c.in_ok-replies.replies.items c.run.new.map.entries c.in_ok-replies.ensures.refused
