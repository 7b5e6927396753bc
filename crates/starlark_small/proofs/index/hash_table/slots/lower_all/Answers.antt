use Rattle.starlark_hash.proofs.Common.{rules, of_calls}
use Rattle.starlark_small.specs.Slots.{lowered}
use Rattle.starlark_small.proofs.Passes.{replaced-each}
use Rattle.starlark_small.proofs.index.hash_table.slots.lower_all.Goals as goal

pub returns : goal.returns
returns c =
    assumption (replaced-each _ (lowered c.args.last) _ c.replace_each.ensures.replaced.0 _ _ (λ x y next called. (search (rules, of_calls, called), search (rules, of_calls, called))) c.replace_each.ensures.replaced.1)
