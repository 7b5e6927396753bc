use Rattle.starlark_hash.proofs.Common.{◌≡◌, refl}
use Rattle.starlark_map.proofs.AscendingKeys.{along_from}
use Rattle.starlark_map.proofs.AscendingLists.{Ascends-clones}
use Rattle.starlark_map.proofs.sorted_set.SortedSet.clone.Goals as goal

pub invariant_of-result : goal.invariant_of-result
invariant_of-result g c =
    Ascends-clones g.met.T.Ord.total g.met.T.Ord.matches_eq g.T.Clone.is_clone (λ x y. y ≡ x) c.requires
    c.self.inside.inner.entries c.in_ok-clone.field-0.entries c.in_ok-clone.ensures.clone.entries c.self.invariant

pub returns-clause-along : goal.returns-clause-along
returns-clause-along g c = along_from g.met.T.Ord.total c.in_ok-clone.field-0.entries (invariant_of-result g c)

pub returns-clause-clones : goal.returns-clause-clones
returns-clause-clones g c = rw (← c.self.view_is) (record { clone = c.in_ok-clone.ensures.clone; succeeds = λ _. refl })
