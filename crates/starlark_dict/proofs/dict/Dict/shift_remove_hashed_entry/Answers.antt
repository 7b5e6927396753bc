use Rattle.starlark_hash.proofs.Common.{◌∙◌, ap, map, refl}
use Rattle.starlark_hash.specs.Entries.{pair_of}
use Rattle.starlark_hash.specs.HashValue.{key_of}
use Rattle.starlark_dict.specs.Dict.{dict_of}
use Rattle.starlark_dict.proofs.Changes.{length-removed_entry, updated-removed}
use Rattle.starlark_dict.proofs.Inserted.{memory-kept}
use Rattle.starlark_dict.proofs.OwnPairs.{found-query, found_key-query, removed-query, unique-own}
use Rattle.starlark_dict.proofs.dict.Dict.shift_remove_hashed_entry.Goals as goal

pub returns : goal.returns
returns g c =
    let eq = g.K.PartialEq.eq in
    let laws = g.met.K.Eq.laws in
    let test = g.Q.Query.stands_for (key_of c.args.key) in
    let one = g.met.Q.Query.respects_eq (key_of c.args.key) in
    let old = c.self.inside.map in
    let new = c.shift_remove_hashed_entry.new.self in
    let es = old.entries in
    let own = c.self.invariant in
    let e = c.shift_remove_hashed_entry.ensures in
    let pairs = ap (map pair_of) e.removes.entries ∙ removed-query g.Q.Query.stands_for g.Q.Hash.hash_input g.K.Hash.hash_input g.met.Q.HashQuery.feeds_alike c.args.key c.requires es own in
    let unique = unique-own eq g.K.Hash.hash_input g.met.K.Hash.respects_eq es c.iter_hashed.ensures.single own in
    rw (← c.self.view_is)
    (record {
      key = e.key ∙ found_key-query g.Q.Query.stands_for g.Q.Hash.hash_input g.K.Hash.hash_input g.met.Q.HashQuery.feeds_alike c.args.key c.requires es own;
      value = e.value ∙ found-query g.Q.Query.stands_for g.Q.Hash.hash_input g.K.Hash.hash_input g.met.Q.HashQuery.feeds_alike c.args.key c.requires es own;
      updates = updated-removed eq laws test one (map pair_of es) unique (dict_of old) (dict_of new) refl pairs;
      entries = pairs;
      len = length-removed_entry eq laws test one (map pair_of es) (map pair_of new.entries) pairs c.shift_remove_hashed_entry.result (e.value ∙ found-query g.Q.Query.stands_for g.Q.Hash.hash_input g.K.Hash.hash_input g.met.Q.HashQuery.feeds_alike c.args.key c.requires es own);
      memory = memory-kept old new e.removes.kept;
    })
