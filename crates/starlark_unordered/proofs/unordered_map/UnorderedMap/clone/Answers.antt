use Rattle.starlark_hash.proofs.Common.{arith, rules, common_steps}
use Rattle.starlark_hash.specs.Clone.{IsLawfulClone}
use Rattle.starlark_unordered.proofs.LookupAgreement.{found-cloned, pairs-cloned, keyed-cloned}
use Rattle.starlark_unordered.proofs.unordered_map.UnorderedMap.clone.Goals as goal
use Rattle.std.proofs.lemmas.Map.Entries.{entries_from_clone}

pub invariant_of-result : goal.invariant_of-result
invariant_of-result g c =
    keyed-cloned g.K.Clone.is_clone g.V.Clone.is_clone _ g.met.K.Eq.laws _ g.met.K.Hash.respects_eq c.requires _ _ c.in_ok-clone.ensures.cases.slots c.self.invariant

pub returns : goal.returns
returns g c =
    let key = g.K.Clone.is_clone in
    let value = g.V.Clone.is_clone in
    let pairs = rw c.self.view_is at (pairs-cloned key value _ _ c.in_ok-clone.ensures.cases.slots) in
    let same = λ (keys : IsLawfulClone key) (values : IsLawfulClone value). entries_from_clone key value keys values _ _ pairs in
    let found = found-cloned g.K.PartialEq.eq g.met.K.Eq.laws key value c.requires _ _ pairs in
    first_of (search (rules, pairs, same, found), grind (arith, common_steps, pairs, same, found))
