use Rattle.starlark_hash.proofs.Common.{sym, ap, ◌∙◌, rules, option_and_then}
use Rattle.starlark_map.specs.JsonObjects.{entries_of_members}
use Rattle.starlark_map.proofs.AscendingMembers.{made_of_members, made_ascends}
use Rattle.starlark_map.proofs.json.map.map_from_value.Goals as goal

pub returns-clause-entries : goal.returns-clause-entries
returns-clause-entries c =
    ap (option_and_then entries_of_members) (sym c.in-Some.ensures)
    ∙ made_of_members c.in-Some.members.now.entries c.loop-key.map.entries c.iter-key-items.ensures.ordered (search rules)

pub returns-clause-ascends : goal.returns-clause-ascends
returns-clause-ascends c = made_ascends c.in-Some.members.now.entries c.loop-key.map.entries c.iter-key-items.ensures.ordered (search rules)
