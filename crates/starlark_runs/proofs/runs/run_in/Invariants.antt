use Rattle.starlark_hash.proofs.Common.{◌+◌, ◌≤◌, ◌++◌}
use Rattle.std.specs.Vec.{vec_len, vec_capacity}
use Rattle.std.specs.Vec.Iter.{into_iter_items, into_iter_len}
use Rattle.starlark_runs.specs.Memory.{HasMemory, Memory, MemoryRun, memory_of}
use Rattle.starlark_runs.specs.Run.{CanShow, Shows}
use Rattle.starlark_runs.proofs.runs.run_in.Given as goal

-- The map has some memory. The replies so far, followed by whatever replies the remaining commands may have from there on,
-- are the replies of a run of all commands.
abbrev pub invariant-loop-command : goal.invariant-loop-command
invariant-loop-command g l =
    record {
      can : CanShow g.F.Fn g.K.PartialEq.eq g.K.Ord.cmp l.fn.look l.map.entries (into_iter_items l.rest);
      room : vec_len l.replies + into_iter_len l.rest ≤ vec_capacity l.replies;
      memory : (memory : Memory) × HasMemory l.fn.map memory l.map
          × ((replies : _) (new : _) (last : Memory) → MemoryRun g.K.PartialEq.eq g.K.Ord.cmp (Shows g.F.Fn l.fn.look) memory l.map.entries (into_iter_items l.rest) replies new last
          → MemoryRun g.K.PartialEq.eq g.K.Ord.cmp (Shows g.F.Fn l.fn.look) (memory_of l.fn.map) l.fn.map.entries l.fn.commands.items (l.replies.items ++ replies) new last);
    }

abbrev pub decreases-loop-command : goal.decreases-loop-command
decreases-loop-command g l = into_iter_len l.rest
