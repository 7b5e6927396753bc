use Rattle.starlark_hash.proofs.Common.{rules, of_calls, ◌<◌, length, slice_index, All-map}
use Rattle.starlark_table.specs.Table.{members}
use Rattle.starlark_small.proofs.Passes.{can_replace, replaced-each}
use Rattle.starlark_small.proofs.index.hash_table.slots.rename_each.Goals as goal

pub replace_each-requires : goal.replace_each-requires
replace_each-requires c =
    can_replace _ _ (λ x y next called. search (rules, of_calls, called)) (length c.args.to.now) _ (λ x below. below)
    (All-map (λ x. x < length c.args.to.now) (λ m. m.1) (members c.args.table.now) c.requires)

pub returns : goal.returns
returns c =
    assumption (replaced-each _ (slice_index c.args.to.now) _ c.replace_each.ensures.replaced.0 _ _ (λ x y next called. (search (rules, of_calls, called), search (rules, of_calls, called))) c.replace_each.ensures.replaced.1)
