use Rattle.starlark_hash.proofs.Common.{sym}
use Rattle.starlark_map.proofs.Images.{own_inserted}
use Rattle.starlark_map.proofs.json.set.insert_item.Goals as goal

pub returns-clause-ok : goal.returns-clause-ok
returns-clause-ok c =
    let text = c.in-Some.text.now in (
      text,
      sym c.in-Some.ensures,
      cc (c.in_ok-insert.ensures.inserts.entries, own_inserted c.args.set.now.entries c.in_ok-from_str.field-0 text tt c.in_ok-from_str.ensures.ok),
    )
