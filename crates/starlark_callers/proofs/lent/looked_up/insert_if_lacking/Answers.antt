use Rattle.starlark_hash.proofs.Common.{OnOk, rules, subst}
use Rattle.starlark_small.specs.Insert.{IsInserted}
use Rattle.starlark_callers.proofs.LookedUp.{inserted_as}
use Rattle.starlark_callers.proofs.lent.looked_up.insert_if_lacking.Goals as goal

pub returns-in-Ok-clause-inserted : goal.returns-in-Ok-clause-inserted
returns-in-Ok-clause-inserted g c = λ none.
    let lacking = c.in-Vacant.lacking in
    let slot = c.in-Ok._slot in
    let entry = c.in-Vacant.ensures.enters.entry in
    let last = c.insert.follows.lender slot.now in
    inserted_as c.args.map.now lacking.map.now _ c.args.key lacking.key c.args.value slot.now entry.0 entry.2 c.in-Ok.ensures.value
    (subst (λ n. IsInserted lacking.map.now n lacking.key slot.now) {x = last} (search rules) (subst (λ r. OnOk r (IsInserted lacking.map.now last lacking.key slot.now)) c.in-Ok.is (c.insert.follows.holds slot.now).0))
