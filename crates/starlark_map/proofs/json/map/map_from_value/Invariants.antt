use Rattle.starlark_hash.proofs.Common.{◌≡◌, [], option_map, bytes_eq}
use Rattle.serde_json.specs.View.{members_view}
use Rattle.starlark_small.specs.Collect.{insert_all}
use Rattle.starlark_map.specs.JsonObjects.{entries_of_members, IsMemberFault}
use Rattle.starlark_map.specs.JsonTexts.{text_entries}
use Rattle.starlark_map.specs.declared.json.fault.JsonFault.{JsonFault}
use Rattle.starlark_map.proofs.json.map.map_from_value.Given as goal

-- inserting what is left into what was read gives the whole, and what is left fails as the whole does
abbrev pub invariant-loop-key : goal.invariant-loop-key
invariant-loop-key l =
    (option_map (insert_all bytes_eq (text_entries l.map.entries)) (entries_of_members (members_view l.key-iterator)) ≡ option_map (insert_all bytes_eq []) (entries_of_members (members_view l.initial.key-iterator)))
    × ((fault : JsonFault) → IsMemberFault (members_view l.key-iterator) fault → IsMemberFault (members_view l.initial.key-iterator) fault)
