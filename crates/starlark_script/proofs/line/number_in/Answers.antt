use Rattle.starlark_script.proofs.Numbers.{read-some, read-none, plain-none}
use Rattle.starlark_script.proofs.line.number_in.Goals as goal

pub returns-then-not-is_plain-clause-none : goal.returns-then-not-is_plain-clause-none
returns-then-not-is_plain-clause-none c = plain-none c.args.text.now c.is_plain.result (rw c.as_bytes.ensures.value at c.is_plain.ensures.1) c.if-not-is_plain.true

pub returns-clause-some : goal.returns-clause-some
returns-clause-some c = rw c.ok.ensures.value (read-some c.args.text.now c.parse.result c.parse.ensures.value.0 (rw c.as_bytes.ensures.value at (c.is_plain.ensures.0 c.if-not-is_plain.false)))

pub returns-clause-none : goal.returns-clause-none
returns-clause-none c = rw c.ok.ensures.value (read-none c.args.text.now c.parse.result c.parse.ensures.value.0)
