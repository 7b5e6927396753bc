use Rattle.starlark_hash.proofs.Common.{◌∙◌, deref_pair, sym}
use Rattle.std_collections.proofs.IterRuns.{shows_values_in_order}
use Rattle.starlark_dict.proofs.OwnPairs.{length-pairs, unique-own}
use Rattle.starlark_dict.proofs.dict.Dict.iter.Goals as goal

pub returns : goal.returns
returns g c =
    let es = c.self.inside.map.entries in
    let e = c.iter.ensures in
    rw (← c.self.view_is)
    (record {
      rest = e.pairs;
      len = e.runs.1 ∙ sym (length-pairs es);
      runs = e.runs.2;
      runs_back = e.runs.3;
      values_run = shows_values_in_order deref_pair;
      unique = unique-own g.K.PartialEq.eq g.K.Hash.hash_input g.met.K.Hash.respects_eq es e.single c.self.invariant;
      fits = rw (length-pairs es) e.runs.0;
    })
