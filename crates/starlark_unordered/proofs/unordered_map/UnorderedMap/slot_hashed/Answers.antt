use Rattle.starlark_hash.proofs.Common.{arith, rules, of_calls, refl}
use Rattle.starlark_hash.proofs.SearchLemmas.{is_test}
use Rattle.starlark_unordered.proofs.QuerySearch.{slot_by_hashed}
use Rattle.starlark_unordered.proofs.unordered_map.UnorderedMap.slot_hashed.Goals as goal

pub returns : goal.returns
returns g c =
    rw c.self.view_is at (slot_by_hashed _ _ _ g.met.K.Eq.laws _ (g.met.Q.Query.respects_eq c.args.query) c.self.inside.table c.self.invariant _ _
    (is_test _ _ _ (λ x accepts next called. (search (rules, of_calls, called), search (rules, of_calls, called)))) _ _ c.find.ensures.1
    g.met.K.Hash.respects_eq c.args.hash (omega arith) refl)
