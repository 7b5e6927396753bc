use Rattle.starlark_unordered.proofs.RawEntryWrites.{key_in_place, raw_key_put}
use Rattle.starlark_unordered.proofs.raw_entry.RawOccupiedEntryMut.insert_key.Goals as goal

pub returns : goal.returns
returns g c =
    let o = c.args.self.now in
    let put = c.replace_key.ensures.puts in
    record { old = put.old; new = raw_key_put o c.args.key c.replace_key.new.self put.new _; pairs = rw put.new (key_in_place o.map.now o.slot c.args.key) }
