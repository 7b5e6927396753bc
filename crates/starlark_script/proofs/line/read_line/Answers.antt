use Rattle.starlark_script.proofs.FieldFacts.{not-text-is-bad}
use Rattle.starlark_script.proofs.line.read_line.Goals as goal

pub returns-in-Err : goal.returns-in-Err
returns-in-Err c = not-text-is-bad c.args.text.now c.in-Err.ensures.cases.0
