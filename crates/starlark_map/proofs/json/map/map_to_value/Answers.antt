use Rattle.starlark_hash.proofs.Common.{◌≡◌, ap, ◌∙◌, map, rules}
use Rattle.serde_json.specs.Data.{object}
use Rattle.serde_json.specs.Find.{get}
use Rattle.starlark_hash.specs.Entries.{pair_of}
use Rattle.starlark_map.specs.JsonTexts.{text_pairs_of}
use Rattle.starlark_map.proofs.JsonWrites.{all_put, get_member-put_all}
use Rattle.starlark_map.proofs.json.map.map_to_value.Goals as goal

pub returns-clause-object : goal.returns-clause-object
returns-clause-object c =
    let es = c.args.map.now.entries in
    let walk : c.into_iter-key-iterator.result ≡ map pair_of es = search rules in
    c.from.ensures ∙ ap object (all_put es _ _ _ walk c.in-None.ensures.steps.0 c.loop-key.invariant.0)

pub returns-clause-members : goal.returns-clause-members
returns-clause-members c key = ap (get key) (returns-clause-object c) ∙ get_member-put_all key (text_pairs_of c.args.map.now.entries)
