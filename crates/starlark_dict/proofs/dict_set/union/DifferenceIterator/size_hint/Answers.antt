use Rattle.starlark_hash.proofs.Common.{arith, length, subst, ◌≤◌}
use Rattle.std_collections.proofs.SetLists.{length-filter}
use Rattle.starlark_dict.proofs.dict_set.union.DifferenceIterator.size_hint.Goals as goal

pub returns : goal.returns
returns g c =
    let fewer = subst (λ l. length l ≤ length c.self.inside.left) c.self.view_is (length-filter _ c.self.inside.left) in
    record { lower = λ _. omega arith; upper = (tt, omega (arith, fewer, c.len.ensures.value)) }
