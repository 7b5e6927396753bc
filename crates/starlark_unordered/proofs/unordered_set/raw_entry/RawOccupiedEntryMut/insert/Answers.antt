use Rattle.starlark_hash.proofs.Common.{ap, refl}
use Rattle.starlark_unordered.proofs.RawEntryWrites.{key_shown, raw_element_put, element_in_place}
use Rattle.starlark_unordered.proofs.unordered_set.raw_entry.RawOccupiedEntryMut.insert.Goals as goal

pub returns : goal.returns
returns g c =
    let entry = c.args.self.now in
    let put = c.replace_key.ensures.puts in
    record {
      old = put.old;
      new = raw_element_put entry c.args.element c.replace_key.new.self put.new _;
      shown = key_shown entry.map.now entry.slot c.args.element entry.there c.replace_key.new.self put.new;
      elements = element_in_place entry.map.now entry.slot c.args.element c.replace_key.result _ refl put.old c.replace_key.new.self put.new;
      room = ap (λ m. m.room) put.new;
    }
