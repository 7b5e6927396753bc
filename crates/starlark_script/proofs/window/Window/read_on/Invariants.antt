use Rattle.starlark_hash.proofs.Common.{◌≤◌, length, Keeps, prepend_known}
use Rattle.starlark_script.specs.Found.{HasNoBreak}
use Rattle.starlark_script.proofs.window.Window.read_on.Given as goal

abbrev pub invariant-loop : goal.invariant-loop
invariant-loop g l =
    (length l.self ≤ 1000) × HasNoBreak l.self × Keeps (prepend_known l.fn.self (g.R.Read.remaining l.fn.reader)) (prepend_known l.self (g.R.Read.remaining l.reader))
