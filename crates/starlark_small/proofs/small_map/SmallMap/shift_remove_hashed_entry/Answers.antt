use Rattle.starlark_hash.proofs.Common.{rules}
use Rattle.starlark_hash.specs.HashValue.{key_of}
use Rattle.starlark_small.proofs.CallerRemove.{removes-without}
use Rattle.starlark_small.proofs.small_map.SmallMap.shift_remove_hashed_entry.Goals as goal

pub returns-clause-removes : goal.returns-clause-removes
returns-clause-removes g c =
    removes-without g.K.PartialEq.eq g.met.K.Eq.laws _ _ (g.met.Q.Query.respects_eq (key_of c.args.key)) _ _ c.in_ok-index.ensures.single (search rules) (search rules)
