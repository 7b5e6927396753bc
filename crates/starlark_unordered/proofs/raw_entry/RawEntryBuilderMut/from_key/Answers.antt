use Rattle.starlark_hash.proofs.Common.{refl}
use Rattle.starlark_unordered.proofs.Callers.{writes-slot}
use Rattle.starlark_unordered.specs.Lookup.{found}
use Rattle.starlark_unordered.proofs.raw_entry.RawEntryBuilderMut.from_key.Goals as goal

pub returns-in-Some-clause-entry : goal.returns-in-Some-clause-entry
unfolding found
returns-in-Some-clause-entry g c = (refl, rw c.in-Some.ensures.at c.in-Some.ensures.found, writes-slot _ g.met.K.Eq.laws _ (g.met.Q.Query.respects_eq c.args.query) _ _ c.in-Some.ensures)
