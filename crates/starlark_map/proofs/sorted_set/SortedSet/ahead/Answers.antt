use Rattle.starlark_hash.proofs.Common.{ap, ◌∙◌}
use Rattle.starlark_map.proofs.AscendingUnion.{elements-of}
use Rattle.starlark_map.proofs.sorted_set.SortedSet.ahead.Goals as goal

pub new-requires-clause-ascends : goal.new-requires-clause-ascends
new-requires-clause-ascends g c = rw (elements-of c.self.inside.inner.entries _ c.iter_hashed.ensures.elements) c.self.invariant

pub new-requires-clause-single : goal.new-requires-clause-single
new-requires-clause-single g c = rw (elements-of c.self.inside.inner.entries _ c.iter_hashed.ensures.elements) c.iter_hashed.ensures.single

pub returns-clause-elements : goal.returns-clause-elements
returns-clause-elements g c =
    c.new.ensures ∙ elements-of c.self.inside.inner.entries _ c.iter_hashed.ensures.elements ∙ ap (λ s. s.entries) c.self.view_is
