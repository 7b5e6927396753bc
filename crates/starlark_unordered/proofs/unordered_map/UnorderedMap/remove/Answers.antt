use Rattle.starlark_hash.proofs.Common.{sym}
use Rattle.starlark_unordered.proofs.Callers.{removes_at}
use Rattle.starlark_unordered.proofs.unordered_map.UnorderedMap.remove.Goals as goal

pub returns-in-Some : goal.returns-in-Some
returns-in-Some g c =
    let takes = c.take_out-key.ensures.takes in
    let removed = removes_at _ g.met.K.Eq.laws _ (g.met.Q.Query.respects_eq c.args.query) _ _ c.in-Some.slot c.take_out-key.result c.in-Some.ensures takes in
    record { value = sym removed.was; updates = removed.updates; pairs = removed.pairs; count = rw removed.was removed.count; total = removed.total; unchanged = tt; room = takes.room }
