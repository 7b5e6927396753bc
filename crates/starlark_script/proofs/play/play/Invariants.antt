use Rattle.starlark_hash.proofs.Common.{prepend_known}
use Rattle.starlark_script.specs.ShownEntries.{entries_of}
use Rattle.starlark_script.proofs.ScriptProgress.{Going}
use Rattle.starlark_script.proofs.play.play.Given as goal

abbrev pub invariant-loop-i : goal.invariant-loop-i
invariant-loop-i g l = Going (g.R.Read.remaining l.fn.reader) (prepend_known l.window (g.R.Read.remaining l.reader)) (g.W.Write.contents l.fn.writer) (g.W.Write.contents l.writer) (entries_of l.map.entries) l.i
