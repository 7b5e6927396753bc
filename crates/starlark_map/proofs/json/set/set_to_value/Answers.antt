use Rattle.starlark_hash.proofs.Common.{◌≡◌, ap, ◌∙◌, map, rules}
use Rattle.serde_json.specs.Data.{array}
use Rattle.serde_json.specs.View.{items_of}
use Rattle.starlark_hash.specs.Entries.{entry_key}
use Rattle.starlark_map.proofs.JsonWrites.{all_pushed}
use Rattle.starlark_map.proofs.json.set.set_to_value.Goals as goal

pub returns-clause-array : goal.returns-clause-array
returns-clause-array c =
    let es = c.args.set.now.entries in
    let walk : c.into_iter-text-iterator.result ≡ map entry_key es = search rules in
    c.from-2.ensures ∙ ap (λ ds. array (items_of ds)) (all_pushed es _ _ _ walk c.in-None.ensures.steps.0 c.loop-text.invariant.0)
