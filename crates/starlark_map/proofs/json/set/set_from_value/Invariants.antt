use Rattle.starlark_hash.proofs.Common.{◌≡◌, [], drop, option_map, bytes_eq}
use Rattle.serde_json.specs.View.{items_view}
use Rattle.starlark_small.specs.Collect.{insert_all}
use Rattle.starlark_map.specs.JsonArrays.{elements_of_items, IsItemFault}
use Rattle.starlark_map.specs.JsonTexts.{text_entries}
use Rattle.starlark_map.specs.declared.json.fault.JsonFault.{JsonFault}
use Rattle.starlark_map.proofs.json.set.set_from_value.Given as goal

-- inserting what is left into what was read gives the whole, and what is left fails as the whole does
abbrev pub invariant-loop-item : goal.invariant-loop-item
invariant-loop-item l =
    (option_map (insert_all bytes_eq (text_entries l.set.entries)) (elements_of_items (items_view (drop l.item-index l.item-items))) ≡ option_map (insert_all bytes_eq []) (elements_of_items (items_view l.item-items)))
    × ((fault : JsonFault) → IsItemFault (items_view (drop l.item-index l.item-items)) fault → IsItemFault (items_view l.item-items) fault)
