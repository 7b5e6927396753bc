use Rattle.starlark_hash.proofs.Common.{IsPermutation, IsPermutation-reverse, ap, map, subst, sym, ◌∙◌}
use Rattle.starlark_hash.specs.Entries.{pair_of}
use Rattle.starlark_vecmap.proofs.Views.{map-reverse}
use Rattle.starlark_dict.proofs.Inserted.{memory-kept}
use Rattle.starlark_dict.proofs.Moves.{reordered}
use Rattle.starlark_dict.proofs.OwnPairs.{unique-own}
use Rattle.starlark_dict.proofs.dict.Dict.reverse.Goals as goal

pub returns : goal.returns
returns g c =
    let eq = g.K.PartialEq.eq in
    let feeds = g.K.Hash.hash_input in
    let alike = g.met.K.Hash.respects_eq in
    let old = c.self.inside.map in
    let new = c.reverse.new.self in
    let e = c.reverse.ensures in
    let own = e.own feeds c.self.invariant in
    rw (← c.self.view_is)
    (record {
      entries = ap (map pair_of) e.entries ∙ map-reverse pair_of old.entries;
      reordered = reordered eq feeds alike old new (subst (IsPermutation old.entries) (sym e.entries) (IsPermutation-reverse old.entries)) e.same c.self.invariant own;
      memory = memory-kept old new e.kept;
      unique = unique-own eq feeds alike new.entries c.iter_hashed.ensures.single own;
    })
