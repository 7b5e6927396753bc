use Rattle.starlark_hash.proofs.Common.{map, ap, ◌∙◌}
use Rattle.starlark_hash.specs.Entries.{pair_of}
use Rattle.std_collections.proofs.IterRuns.{gives_in_order, gives_in_reverse}
use Rattle.starlark_vecmap.proofs.vec_map.VecMapIntoIterator.into_iter.Goals as goal

pub returns : goal.returns
returns g c =
    record {
      into_iter_gives = (c.new.ensures ∙ ap (map pair_of) c.into_iter_hashed.ensures.rest, c.into_iter_hashed.ensures.fits, gives_in_order, gives_in_reverse);
    }
