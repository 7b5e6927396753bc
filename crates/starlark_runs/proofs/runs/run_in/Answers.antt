use Rattle.starlark_hash.proofs.Common.{refl, sym, ◌∙◌, ◌∷◌, [], append_assoc, arith, rules, append-nil}
use Rattle.std.proofs.lemmas.List.{nil_from_length}
use Rattle.starlark_runs.proofs.MemoryLemmas.{HasMemory-after, HasMemory-begin}
use Rattle.starlark_runs.proofs.RunLemmas.{can_show-after, can_show-now}
use Rattle.starlark_runs.specs.Memory.{memory_after, memory_of}
use Rattle.starlark_runs.proofs.runs.run_in.Goals as goal

pub loop-command-init : goal.loop-command-init
loop-command-init g c = record {
  can = search rules;
  room = search rules;
  memory = (memory_of c.args.map.now, HasMemory-begin c.args.map.now, λ replies new last run. rw c.requires.empty (rw c.into_iter-rest.ensures.rest at run));
}

pub step-requires : goal.step-requires
step-requires g c =
    can_show-now g.F.Fn c.args.look.now g.K.PartialEq.eq g.K.Ord.cmp c.loop-command.map.entries c.in-Some.command _ (rw c.in-Some.ensures.cases.0 at c.loop-command.invariant.can)

pub loop-command-preserved : goal.loop-command-preserved
loop-command-preserved g c =
    let eq = g.K.PartialEq.eq in
    let old = c.loop-command.map in
    let room = c.loop-command.invariant.room in
    let memory = c.loop-command.invariant.memory in
    record {
      can = can_show-after g.F.Fn c.args.look.now eq g.K.Ord.cmp old.entries c.step.new.map.entries c.in-Some.command _ c.step.result (rw c.in-Some.ensures.cases.0 at c.loop-command.invariant.can) c.step.ensures.step;
      room = omega (arith, c.in-Some.ensures.cases.1, c.push_reserved.ensures.len, c.push_reserved.ensures.capacity);
      memory = (
        memory_after eq memory.0 old.entries c.in-Some.command c.step.result,
        HasMemory-after eq c.args.map.now old c.step.new.map memory.0 c.in-Some.command c.step.result memory.1 c.step.ensures.room c.step.ensures.capacity c.step.ensures.indexed,
        λ replies new last run.
            rw (c.push_reserved.ensures.items, append_assoc)
            (memory.2 (c.step.result ∷ replies) new last (rw c.in-Some.ensures.cases.0 (c.step.new.map.entries, c.step.ensures.step, c.step.ensures.refused memory.0.ceiling memory.1.room, run))),
      );
    }

pub returns : goal.returns
returns g c =
    let done = nil_from_length _ (sym c.loop-command.rest.rest.ok.0 ∙ c.in_default.ensures.cases.0) in
    let memory = c.loop-command.invariant.memory in
    (memory.0, rw append-nil at (memory.2 [] c.loop-command.map.entries memory.0 (rw done (refl, refl))), memory.1)
