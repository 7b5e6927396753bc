use Rattle.starlark_hash.proofs.Common.{◌-◌, ◌∙◌, ap, length, map, refl, slice_get-map, sym}
use Rattle.starlark_hash.specs.Entries.{pair_of}
use Rattle.starlark_dict.specs.Dict.{dict_of}
use Rattle.starlark_dict.proofs.Changes.{updated-taken}
use Rattle.starlark_dict.proofs.Inserted.{memory-kept, pairs-without}
use Rattle.starlark_dict.proofs.OwnPairs.{length-pairs, unique-own}
use Rattle.starlark_dict.proofs.dict.Dict.pop.Goals as goal

pub returns : goal.returns
returns g c =
    let old = c.self.inside.map in
    let es = old.entries in
    let e = c.pop.ensures in
    let eq = g.K.PartialEq.eq in
    let entry = e.taken ∙ sym (slice_get-map pair_of es (length es - 1)) in
    let entries = ap (map pair_of) e.removes.entries ∙ pairs-without es (length es - 1) in
    let unique = unique-own eq g.K.Hash.hash_input g.met.K.Hash.respects_eq es c.iter_hashed.ensures.single c.self.invariant in
    rw (← c.self.view_is)
    (record {
      entry = rw (length-pairs es) entry;
      updates = updated-taken eq g.met.K.Eq.laws (map pair_of es) unique (length es - 1) (dict_of old) (dict_of c.pop.new.self) refl entries c.pop.result entry;
      entries = rw (length-pairs es) entries;
      memory = memory-kept old c.pop.new.self e.removes.kept;
    })
