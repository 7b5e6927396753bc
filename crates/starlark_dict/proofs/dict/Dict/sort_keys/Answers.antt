use Rattle.starlark_hash.proofs.Common.{IsSorted, ap, map, on_ok_weaker, subst, sym, ◌∙◌}
use Rattle.std.proofs.lemmas.Result.{on_err_weaker}
use Rattle.starlark_hash.specs.Entries.{pair_of}
use Rattle.starlark_dict.proofs.Inserted.{memory-kept}
use Rattle.starlark_dict.proofs.Moves.{ascends-pairs, moved-sorted, pairs-sorted, reordered}
use Rattle.starlark_dict.proofs.OwnPairs.{keys-pairs, unique-own}
use Rattle.starlark_dict.proofs.dict.Dict.sort_keys.Goals as goal

pub invariant_of-self : goal.invariant_of-self
invariant_of-self g c = c.sort_keys-sorted.ensures.own g.K.Hash.hash_input c.self.invariant

pub returns : goal.returns
returns g c =
    let eq = g.K.PartialEq.eq in
    let cmp = g.K.Ord.cmp in
    let feeds = g.K.Hash.hash_input in
    let alike = g.met.K.Hash.respects_eq in
    let old = c.self.inside.map in
    let new = c.sort_keys-sorted.new.self in
    let r = c.sort_keys-sorted.result in
    let e = c.sort_keys-sorted.ensures in
    let own = e.own feeds c.self.invariant in
    rw (← c.self.view_is)
    (record {
      entries = on_ok_weaker r (λ is. ap (map pair_of) is ∙ pairs-sorted cmp old.entries) e.entries;
      sorted = on_ok_weaker r (subst (IsSorted cmp) (sym (keys-pairs new.entries))) e.sorted;
      err = on_err_weaker r (ap (map pair_of)) e.unchanged;
      succeeds = λ up. (e.at_once (ascends-pairs cmp old.entries up)).0;
      reordered = reordered eq feeds alike old new (moved-sorted cmp old.entries new.entries r e.entries e.unchanged) e.same c.self.invariant own;
      memory = memory-kept old new e.kept;
      unique = unique-own eq feeds alike new.entries c.iter_hashed.ensures.single own;
    })
