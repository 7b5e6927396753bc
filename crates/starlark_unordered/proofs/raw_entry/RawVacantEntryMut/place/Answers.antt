use Rattle.starlark_hash.proofs.Common.{refl}
use Rattle.starlark_unordered.proofs.WrittenInsertion.{puts_pair}
use Rattle.starlark_unordered.proofs.raw_entry.RawVacantEntryMut.place.Goals as goal

pub returns : goal.returns
returns g c =
    let put = c.insert_new-placed.ensures in
    puts_pair g.K.PartialEq.eq g.met.K.Eq.laws c.args.self.map _ c.args.key c.args.value (c.args.key, c.args.value) c.insert_new-placed.result c.requires refl put.placed put.adds put.refused put.handed_back put.memory
