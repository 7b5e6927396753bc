use Rattle.starlark_unordered.proofs.unordered_set.UnorderedSet.len.Goals as goal

pub returns-clause-distinct : goal.returns-clause-distinct
returns-clause-distinct g c = rw c.self.view_is at c.len.ensures.distinct
