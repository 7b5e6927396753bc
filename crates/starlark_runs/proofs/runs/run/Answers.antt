use Rattle.starlark_hash.proofs.Common.{◌+◌, ◌*◌, ◌≡◌, ◌≤◌, length, max}
use Rattle.starlark_runs.proofs.Determinism.{Run-determined}
use Rattle.starlark_runs.proofs.MemoryLemmas.{EndsWith-last, Run-of_memory}
use Rattle.starlark_runs.specs.Memory.{memory_of}
use Rattle.starlark_runs.specs.Run.{Shows}
use Rattle.starlark_runs.proofs.runs.run.Goals as goal

pub returns-clause-run : goal.returns-clause-run
returns-clause-run g c =
    let start = c.args.map.now in
    Run-of_memory g.K.PartialEq.eq g.K.Ord.cmp (Shows g.F.Fn c.args.look) (memory_of start) start.entries c.args.commands.items c.run_in.new.replies.items c.run_in.new.map.entries c.run_in.ensures.0 c.run_in.ensures.1

pub returns-clause-determined : goal.returns-clause-determined
returns-clause-determined g c = λ once others end run same.
    Run-determined g.K.PartialEq.eq g.K.Ord.cmp (Shows g.F.Fn c.args.look) once c.args.map.now.entries c.args.commands.items others c.run_in.new.replies.items end c.run_in.new.map.entries
    run (returns-clause-run g c) same

pub returns-clause-refused : goal.returns-clause-refused
returns-clause-refused g c = (c.run_in.ensures.0, c.run_in.ensures.1)

pub returns-clause-room : goal.returns-clause-room
returns-clause-room g c =
    let now = c.run_in.new.map in
    EndsWith-last g.K.PartialEq.eq g.K.Ord.cmp (Shows g.F.Fn c.args.look) c.args.map.now c.args.commands.items c.run_in.new.replies.items now.entries c.run_in.ensures.0
    (λ last. last.ceiling ≤ length now.entries + now.room) c.run_in.ensures.1 c.run_in.ensures.2.room

pub returns-clause-capacity : goal.returns-clause-capacity
returns-clause-capacity g c =
    let start = c.args.map.now in
    let now = c.run_in.new.map in
    EndsWith-last g.K.PartialEq.eq g.K.Ord.cmp (Shows g.F.Fn c.args.look) start c.args.commands.items c.run_in.new.replies.items now.entries c.run_in.ensures.0
    (λ last. now.capacity ≤ max start.capacity (max 4 (2 * last.asked))) c.run_in.ensures.1 c.run_in.ensures.2.capacity

pub returns-clause-indexed : goal.returns-clause-indexed
returns-clause-indexed g c =
    let now = c.run_in.new.map in
    EndsWith-last g.K.PartialEq.eq g.K.Ord.cmp (Shows g.F.Fn c.args.look) c.args.map.now c.args.commands.items c.run_in.new.replies.items now.entries c.run_in.ensures.0
    (λ last. now.indexed ≡ last.indexed) c.run_in.ensures.1 c.run_in.ensures.2.indexed
