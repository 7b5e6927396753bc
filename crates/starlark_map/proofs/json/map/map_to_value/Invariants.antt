use Rattle.starlark_hash.proofs.Common.{◌≡◌, []}
use Rattle.serde_json.specs.Data.{no_members}
use Rattle.serde_json.specs.View.{members_view}
use Rattle.starlark_map.specs.JsonObjects.{put_all}
use Rattle.starlark_map.proofs.JsonWrites.{text_pairs}
use Rattle.starlark_map.proofs.json.map.map_to_value.Given as goal

-- putting what is left into what was made gives the whole; if the map is empty, nothing is left
abbrev pub invariant-loop-key : goal.invariant-loop-key
invariant-loop-key l =
    (put_all (members_view l.members.entries) (text_pairs l.key-iterator) ≡ put_all no_members (text_pairs l.initial.key-iterator))
    × (l.initial.key-iterator ≡ [] → l.key-iterator ≡ [])
