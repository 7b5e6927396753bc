-- The bytes that are no longer in the rest were appended.
use Rattle.starlark_hash.proofs.Common.{◌≡◌, ℕ, List, ◌++◌, length, Appends}
use Rattle.starlark_script.proofs.output.write_bytes.Given as goal

abbrev pub invariant-loop-rest : goal.invariant-loop-rest
invariant-loop-rest g l = (done : List ℕ) × (l.fn.bytes ≡ done ++ l.rest) × Appends (g.W.Write.contents l.fn.writer) (g.W.Write.contents l.writer) done

abbrev pub decreases-loop-rest : goal.decreases-loop-rest
decreases-loop-rest g l = length l.rest
