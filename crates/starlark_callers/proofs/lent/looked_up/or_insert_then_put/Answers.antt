use Rattle.starlark_hash.proofs.Common.{OnOk, rules, subst}
use Rattle.starlark_small.specs.MapEntry.{IsPut}
use Rattle.starlark_callers.proofs.LookedUp.{put_there, put_new}
use Rattle.starlark_callers.proofs.lent.looked_up.or_insert_then_put.Goals as goal

pub returns-in-Ok-clause-written : goal.returns-in-Ok-clause-written
returns-in-Ok-clause-written g c =
    let made = c.or_insert_with-slot in
    let entry = c.entry_hashed.result in
    let next = c.args.next in
    put_there g.K.PartialEq.eq c.args.map.now _ c.args.key next entry c.entry_hashed.ensures.enters.entry
    (subst (IsPut entry next) {x = made.follows.lender next} (search rules) (subst (λ r. OnOk r (IsPut entry next (made.follows.lender next))) c.in-Ok.is (made.follows.holds next).0))

pub returns-in-Ok-clause-inserted : goal.returns-in-Ok-clause-inserted
returns-in-Ok-clause-inserted g c =
    let made = c.or_insert_with-slot in
    let entry = c.entry_hashed.result in
    let next = c.args.next in
    put_new g.K.PartialEq.eq c.args.map.now _ c.args.key next entry c.entry_hashed.ensures.enters.entry
    (subst (IsPut entry next) {x = made.follows.lender next} (search rules) (subst (λ r. OnOk r (IsPut entry next (made.follows.lender next))) c.in-Ok.is (made.follows.holds next).0))
