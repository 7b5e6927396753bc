use Rattle.starlark_hash.proofs.Common.{sym, ◌∙◌, deref_pair}
use Rattle.std_collections.proofs.IterRuns.{last_progress}
use Rattle.std.proofs.lemmas.Option.{MatchOption-at_some}
use Rattle.starlark_vec2.proofs.Pairs.{pair_back}
use Rattle.starlark_vec2.proofs.vec2.iter.IterDoubleEndedIterator.next_back.Goals as goal

pub returns-clause-steps : goal.returns-clause-steps
returns-clause-steps g c =
    let xs = MatchOption-at_some _ _ _ c.in_ok-first.was c.next_back.ensures.steps in
    let ys = MatchOption-at_some _ _ _ c.unwrap.ensures c.next_back-2.ensures.steps in
    sym c.self.view_is ∙ pair_back _ _ _ _ _ _ xs ys c.self.invariant

pub returns-clause-goes : goal.returns-clause-goes
returns-clause-goes g c = last_progress deref_pair _ _ _ (returns-clause-steps g c)
