use Rattle.starlark_hash.proofs.Common.{◌≡◌, [], ◌++◌, map}
use Rattle.serde_json.specs.View.{view}
use Rattle.starlark_map.proofs.JsonWrites.{strings}
use Rattle.starlark_map.proofs.json.set.set_to_value.Given as goal

-- what was made and what is left are the whole; if the set is empty, nothing is left
abbrev pub invariant-loop-text : goal.invariant-loop-text
invariant-loop-text l =
    (map view l.items.items ++ strings l.text-iterator ≡ strings l.initial.text-iterator)
    × (l.initial.text-iterator ≡ [] → l.text-iterator ≡ [])
