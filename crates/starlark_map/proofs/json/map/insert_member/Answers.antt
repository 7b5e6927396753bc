use Rattle.starlark_hash.proofs.Common.{string_bytes, sym, rules, to_z-of_z, w64}
use Rattle.std.proofs.Common.{of_z, to_z}
use Rattle.starlark_map.proofs.Images.{own_inserted}
use Rattle.starlark_map.proofs.json.map.insert_member.Goals as goal

pub returns-clause-ok : goal.returns-clause-ok
returns-clause-ok c =
    let es = c.args.map.now.entries in
    let text = string_bytes c.args.key.now in
    let n = c.in-Some.value in (
      n,
      sym c.in-Some.ensures,
      cc (c.in_ok-insert.ensures.inserts.entries, own_inserted es c.in_ok-key.key text (to_z w64 (of_z w64 n)) c.in_ok-key.ensures.cases, to_z-of_z w64 n (search rules)),
    )
