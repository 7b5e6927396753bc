use Rattle.starlark_small.specs.Collect.{own_entry}
use Rattle.starlark_small.proofs.CallerOwn.{own-inserted_all}
use Rattle.starlark_small.proofs.CallerCollect.{collected, finds_collected, has-items}
use Rattle.starlark_small.proofs.small_map.SmallMap.from_iter.Goals as goal

pub returns-clause-made : goal.returns-clause-made
returns-clause-made g c =
    let put = c.in_ok-insert_items.ensures.entries in
    let empty = c.in_ok-map.ensures.empty in
    let new = c.insert_items.new.self in
    let collects =
    collected g.K.PartialEq.eq (own_entry g.K.Hash.hash_input) g.I.IntoIter.Iterator.next_gives g.I.IntoIterator.into_iter_gives g.I.IntoIter.Iterator.remaining c.args.iter
    c.into_iter-items.result c.into_iter-items.ensures.into_iter_gives c.size_hint.result.0 c.size_hint.ensures.lower c.in_ok-map.map new empty put c.in_ok-insert_items.ensures.memory in
    record {
      map = collects;
      items = has-items g.K.PartialEq.eq g.met.K.Eq.laws g.K.Hash.hash_input g.I.IntoIter.Iterator.next_gives g.I.IntoIterator.into_iter_gives c.args.iter new
          (finds_collected _ g.met.K.Eq.laws _ g.met.K.Hash.respects_eq _ _ _ _ _ collects);
      own = own-inserted_all g.K.Hash.hash_input g.K.PartialEq.eq c.in_ok-map.map.entries new.entries put.items put.entries (empty.own g.K.Hash.hash_input);
    }

pub returns-clause-found : goal.returns-clause-found
returns-clause-found g c = finds_collected _ g.met.K.Eq.laws _ g.met.K.Hash.respects_eq _ _ _ _ _ (returns-clause-made g c).map
