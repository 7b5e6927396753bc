use Rattle.starlark_hash.proofs.Common.{arith, rules, common_steps}
use Rattle.starlark_unordered.proofs.Callers.{puts_at}
use Rattle.starlark_unordered.proofs.unordered_map.UnorderedMap.insert_by_search.Goals as goal

pub returns-in-Some : goal.returns-in-Some
returns-in-Some g c =
    rw c.replace.ensures.after (
    let put = puts_at g.K.PartialEq.eq g.met.K.Eq.laws c.args.self.now c.in-Some.slot c.args.key c.args.value c.in-Some.ensures in
    record { old = first_of (search rules, grind (arith, common_steps)); updates = put.updates; pairs = put.pairs; count = put.count; total = put.total; refused = tt; handed_back = tt; memory = put.memory })
