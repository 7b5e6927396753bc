use Rattle.starlark_hash.proofs.Common.{OnOk, rules, subst}
use Rattle.starlark_small.specs.Insert.{IsInserted}
use Rattle.starlark_callers.proofs.lent.maps.insert_then_put.Goals as goal

pub returns-in-Ok-clause-inserted : goal.returns-in-Ok-clause-inserted
returns-in-Ok-clause-inserted g c =
    let lent = c.lend_new_value in
    let next = c.args.next in
    let last = lent.follows.lender next in
    subst (λ n. IsInserted c.args.map.now n c.args.key next) {x = last} (search rules) (subst (λ r. OnOk r (IsInserted c.args.map.now last c.args.key next)) c.in-Ok.is (lent.follows.holds next))
