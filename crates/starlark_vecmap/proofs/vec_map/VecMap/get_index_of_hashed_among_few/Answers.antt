use Rattle.starlark_hash.proofs.Common.{rules, of_calls}
use Rattle.starlark_hash.specs.HashValue.{key_of}
use Rattle.starlark_hash.proofs.SearchLemmas.{is_test}
use Rattle.starlark_vecmap.proofs.FirstAccepted.{asks-position_of, found_within}
use Rattle.starlark_vecmap.proofs.vec_map.VecMap.get_index_of_hashed_among_few.Goals as goal

pub returns-clause-index : goal.returns-clause-index
returns-clause-index g c =
    let t = g.Q.Query.stands_for (key_of c.args.key) in
    rw (← c.hash-hash.ensures) (asks-position_of _ t _ (is_test _ t _ (λ x accepts next called. (search (rules, of_calls, called), search (rules, of_calls, called))))
    c.hash-hash.result c.args.self.now.entries c.search_few.result _ c.search_few.ensures.1)

pub returns-clause-within : goal.returns-clause-within
returns-clause-within g c = found_within _ c.args.self.now.entries c.search_few.result (returns-clause-index g c)
