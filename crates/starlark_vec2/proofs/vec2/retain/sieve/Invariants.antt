use Rattle.starlark_hash.proofs.Common.{◌≤◌, ◌-◌, zip}
use Rattle.starlark_vec2.specs.Retain.{TakesBoth, CalledAtBoth}
use Rattle.starlark_vec2.proofs.Retention.{Sifting}
use Rattle.starlark_vec2.proofs.vec2.retain.sieve.Given as goal

abbrev pub invariant-loop-i : goal.invariant-loop-i
invariant-loop-i g l = record {
  kept_before : l.kept ≤ l.i;
  within : l.i ≤ l.len;
  sifting : Sifting (CalledAtBoth g.F.FnMut) (TakesBoth g.F.FnMut) l.initial.keep (zip l.initial.firsts l.initial.seconds) l.keep l.firsts l.seconds l.kept l.i;
}

abbrev pub decreases-loop-i : goal.decreases-loop-i
decreases-loop-i g l = l.len - l.i
