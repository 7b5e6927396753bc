use Rattle.starlark_script.proofs.Numbers.{read-signed-some, read-signed-none, plain-signed-none}
use Rattle.starlark_script.proofs.line.value_in.Goals as goal

pub returns-then-not-is_plain_signed-clause-none : goal.returns-then-not-is_plain_signed-clause-none
returns-then-not-is_plain_signed-clause-none c = plain-signed-none c.args.text.now c.is_plain_signed.result (rw c.as_bytes.ensures.value at c.is_plain_signed.ensures.1) c.if-not-is_plain_signed.true

pub returns-clause-some : goal.returns-clause-some
returns-clause-some c = rw c.ok.ensures.value (read-signed-some c.args.text.now c.parse.result c.parse.ensures.value.0 (rw c.as_bytes.ensures.value at (c.is_plain_signed.ensures.0 c.if-not-is_plain_signed.false)))

pub returns-clause-none : goal.returns-clause-none
returns-clause-none c = rw c.ok.ensures.value (read-signed-none c.args.text.now c.parse.result c.parse.ensures.value.0)
