-- The lowest bit of the array's mask is the first index.
use Rattle.starlark_hash.proofs.Common.{[], sym, ◌∙◌, arith, append-nil, nat_eq}
use Rattle.starlark_hash.proofs.PositionLemmas.{position-within}
use Rattle.starlark_vecmap.proofs.Blocks.{lowest, nowhere_from, position_at}
use Rattle.starlark_vecmap.proofs.hash_search.find_hash_in_array.Goals as goal

pub returns-then-mask-eq0-clause-index : goal.returns-then-mask-eq0-clause-index
returns-then-mask-eq0-clause-index c = nowhere_from c.args.hash c.args.array.now 0 (omega arith) (omega arith) (sym c.indices_of_short-mask.ensures ∙ c.if-mask-eq0.true)

pub returns-clause-index : goal.returns-clause-index
returns-clause-index c =
    let low = rw append-nil at (lowest c.args.hash c.args.array.now [] c.indices_of_short-mask.result (omega arith) c.indices_of_short-mask.ensures c.if-mask-eq0.false) in
    position_at c.args.hash c.args.array.now _ low.0 low.1

pub returns-clause-within : goal.returns-clause-within
returns-clause-within c = position-within (λ h. nat_eq h c.args.hash) c.args.array.now _ (sym (returns-clause-index c))
