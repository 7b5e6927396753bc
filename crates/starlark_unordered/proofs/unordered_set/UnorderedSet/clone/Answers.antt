use Rattle.starlark_unordered.specs.Pairs.{pairs_of}
use Rattle.starlark_unordered.proofs.LookupAgreement.{keys-cloned}
use Rattle.starlark_unordered.proofs.unordered_set.UnorderedSet.clone.Goals as goal

pub returns-clause-elements : goal.returns-clause-elements
returns-clause-elements g c =
    rw c.self.view_is at (keys-cloned g.T.Clone.is_clone _ (pairs_of c.self.inside.map) (pairs_of c.in_ok-clone.field-0) c.in_ok-clone.ensures.pairs)
