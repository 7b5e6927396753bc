use Rattle.starlark_hash.proofs.Common.{◌≡◌, rules, to_z-of_z, w64}
use Rattle.serde_json.specs.View.{view}
use Rattle.serde_json.proofs.Views.{members_view-insert_entry}
use Rattle.starlark_map.proofs.JsonWrites.{integer}
use Rattle.starlark_map.proofs.json.map.put_member.Goals as goal

pub returns : goal.returns
returns c =
    let same : view c.from.result ≡ integer c.args.value = rw (to_z-of_z w64 c.args.value (search rules)) at c.from.ensures in
    cc (c.in_ok-insert.ensures.entries, members_view-insert_entry c.args.members.now.entries c.in_ok-name.name c.from.result, c.in_ok-name.ensures.cases)
