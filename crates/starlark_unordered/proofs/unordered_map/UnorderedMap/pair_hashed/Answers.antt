use Rattle.starlark_hash.proofs.Common.{ap, ◌∙◌, arith, rules, of_calls, refl, option_map}
use Rattle.starlark_hash.proofs.SearchLemmas.{is_test}
use Rattle.starlark_unordered.proofs.QuerySearch.{slot_by_hashed, value_of-slot}
use Rattle.starlark_unordered.proofs.unordered_map.UnorderedMap.pair_hashed.Goals as goal

pub returns : goal.returns
returns g c =
    let (slot, last, ran, is) = c.find_item.ensures in
    rw c.self.view_is at (ap (option_map (λ p. p.1)) is ∙ value_of-slot _ c.self.inside.table slot
    (slot_by_hashed _ _ _ g.met.K.Eq.laws (g.Q.Query.stands_for c.args.query) (g.met.Q.Query.respects_eq c.args.query) c.self.inside.table c.self.invariant _ _
    (is_test _ _ _ (λ x accepts next called. (search (rules, of_calls, called), search (rules, of_calls, called)))) _ _ ran
    g.met.K.Hash.respects_eq c.args.hash (omega arith) refl))
