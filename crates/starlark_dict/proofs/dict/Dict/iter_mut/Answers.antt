use Rattle.starlark_hash.proofs.Common.{refl}
use Rattle.starlark_dict.proofs.OwnPairs.{length-pairs, unique-own}
use Rattle.starlark_dict.proofs.Walked.{keeps-keys, keeps-members}
use Rattle.starlark_dict.proofs.dict.Dict.iter_mut.Goals as goal

pub returns : goal.returns
returns g c =
    let eq = g.K.PartialEq.eq in
    let es = c.self.inside.map.entries in
    let seen = c.iter_hashed.ensures in (
      (refl, λ w. refl),
      record {
        writes_back = tt;
        rest = c.lend_values.ensures.rest;
        unique = rw (← c.self.view_is) (unique-own eq g.K.Hash.hash_input g.met.K.Hash.respects_eq es seen.single c.self.invariant);
        fits = rw (← c.self.view_is, length-pairs es) seen.runs.0;
        keeps = keeps-keys c.args.self.now;
        members = keeps-members eq c.args.self.now;
      },
    )
