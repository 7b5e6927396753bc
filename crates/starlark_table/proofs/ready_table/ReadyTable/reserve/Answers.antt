use Rattle.starlark_hash.proofs.Common.{arith, on_ok_weaker}
use Rattle.starlark_table.proofs.ready_table.ReadyTable.reserve.Goals as goal

pub returns-clause-ok : goal.returns-clause-ok
returns-clause-ok g c = on_ok_weaker c.grow.result (λ h. omega (arith, h, c.len.ensures, c.in-Some.ensures.1)) c.grow.ensures.ok
