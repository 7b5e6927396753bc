use Rattle.starlark_hash.proofs.Common.{rules, of_calls, ◌-◌, ◌<◌, All-map}
use Rattle.starlark_table.specs.Table.{members}
use Rattle.starlark_small.proofs.Passes.{can_replace, replaced-each}
use Rattle.starlark_small.proofs.index.hash_table.slots.reverse_each.Goals as goal

pub replace_each-requires : goal.replace_each-requires
replace_each-requires c =
    can_replace _ _ (λ x y next called. search (rules, of_calls, called)) c.args.len _ (λ x below. (below, c.requires.few))
    (All-map (λ x. x < c.args.len) (λ m. m.1) (members c.args.table.now) c.requires.within)

pub returns : goal.returns
returns c =
    assumption (replaced-each _ (λ index. c.args.len - 1 - index) _ c.replace_each.ensures.replaced.0 _ _ (λ x y next called. (search (rules, of_calls, called), search (rules, of_calls, called))) c.replace_each.ensures.replaced.1)
