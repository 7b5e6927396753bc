use Rattle.std_collections.proofs.IterRuns.{shows_values_in_order}
use Rattle.starlark_dict.proofs.OwnPairs.{length-pairs, unique-own}
use Rattle.starlark_dict.proofs.dict.iter.DictIntoIterator.into_iter.Goals as goal

pub returns : goal.returns
returns g c =
    let es = c.self.inside.map.entries in
    let e = c.into_iter.ensures.into_iter_gives in
    let seen = c.iter_hashed.ensures in
    rw (← c.self.view_is) (record {
      into_iter_gives = (
        e.0,
        rw (length-pairs es) seen.runs.0,
        e.1.2,
        e.1.3,
        shows_values_in_order (λ p. p),
        unique-own g.K.PartialEq.eq g.K.Hash.hash_input g.met.K.Hash.respects_eq es seen.single c.self.invariant,
      );
    })
