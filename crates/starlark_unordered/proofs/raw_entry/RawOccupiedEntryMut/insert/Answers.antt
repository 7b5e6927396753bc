use Rattle.starlark_hash.proofs.Common.{arith, rules, common_steps}
use Rattle.starlark_unordered.proofs.RawEntryWrites.{value_in_place}
use Rattle.starlark_unordered.proofs.raw_entry.RawOccupiedEntryMut.insert.Goals as goal

pub returns : goal.returns
returns g c =
    let pairs = value_in_place c.args.self.now.map.now c.args.self.now.slot c.args.value in
    first_of (search (rules, pairs), grind (arith, common_steps, pairs))
