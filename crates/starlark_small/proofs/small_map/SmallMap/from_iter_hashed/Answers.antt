use Rattle.starlark_small.proofs.CallerCollect.{collected, each_collected, own_collected}
use Rattle.starlark_small.proofs.small_map.SmallMap.from_iter_hashed.Goals as goal

pub returns-clause-map : goal.returns-clause-map
returns-clause-map g c =
    collected _ _ _ _ _ _ c.into_iter-items.result c.into_iter-items.ensures.into_iter_gives c.size_hint.result.0 c.size_hint.ensures.lower c.in_ok-map.map c.insert_entries.new.self
    c.in_ok-map.ensures.empty c.in_ok-insert_entries.ensures.entries c.in_ok-insert_entries.ensures.memory

pub returns-clause-own : goal.returns-clause-own
returns-clause-own g c = own_collected _ _ _ _ _ _ (returns-clause-map g c)

pub returns-clause-each : goal.returns-clause-each
returns-clause-each g c = each_collected _ _ _ _ _ _ (returns-clause-map g c)
