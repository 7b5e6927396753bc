use Rattle.starlark_hash.proofs.Common.{inl}
use Rattle.starlark_script.proofs.WindowBytes.{held-from-break}
use Rattle.starlark_script.proofs.window.Window.read_on.Goals as goal

pub returns-in-Some-clause-shows : goal.returns-in-Some-clause-shows
returns-in-Some-clause-shows g c = inl (rw c.bytes-in-loop.ensures at c.in-Some.ensures.some)

pub returns-in-Some-clause-held : goal.returns-in-Some-clause-held
returns-in-Some-clause-held g c = held-from-break c.in-Some.found c.refill.new.self (rw c.bytes-in-loop.ensures at c.in-Some.ensures.some)
