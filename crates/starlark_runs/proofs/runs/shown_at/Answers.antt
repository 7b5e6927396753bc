use Rattle.starlark_runs.proofs.RunLemmas.{shown-by_call}
use Rattle.starlark_runs.proofs.runs.shown_at.Goals as goal

pub returns : goal.returns
returns g c = shown-by_call g.F.Fn c.args.look.now _ c.in_ok-key.key c.in_ok-key.value _ c.in_ok-key.ensures c.look.ensures
