use Rattle.starlark_hash.proofs.Common.{rules, is_some, length, map, subst, sym, true, ◌≡◌, ◌≤◌}
use Rattle.starlark_hash.specs.Lookup.{found as value_found}
use Rattle.starlark_small.specs.Collect.{Extends, own_entry}
use Rattle.starlark_small.proofs.CallerOwn.{own-inserted_all}
use Rattle.starlark_small.proofs.CallerCollect.{finds_extended, longer-inserted_all, there-inserted_all}
use Rattle.starlark_small.proofs.small_map.SmallMap.extend.Goals as goal

pub returns : goal.returns
returns g c =
    let put = c.insert_items.ensures.entries in
    let made = c.into_iter.ensures.into_iter_gives in
    let extends : Extends g.K.PartialEq.eq (own_entry g.K.Hash.hash_input) g.I.IntoIter.Iterator.next_gives g.I.IntoIterator.into_iter_gives c.args.iter c.args.self.now.entries c.insert_items.new.self.entries c.insert_items.result = record { it = c.into_iter.result; made = made; inserts = put } in
    record {
      found = finds_extended _ g.met.K.Eq.laws _ g.met.K.Hash.respects_eq _ _ _ _ c.args.self.now c.insert_items.new.self extends;
      entries = extends;
      stays = λ under key there. subst (λ es. is_some (value_found (g.K.PartialEq.eq key) under es) ≡ true) (sym put.entries)
          (there-inserted_all g.K.PartialEq.eq (g.K.PartialEq.eq key) under (map (own_entry g.K.Hash.hash_input) put.items) c.args.self.now.entries there);
      longer = subst (λ es. length c.args.self.now.entries ≤ length es) (sym put.entries) (longer-inserted_all g.K.PartialEq.eq (map (own_entry g.K.Hash.hash_input) put.items) c.args.self.now.entries);
      memory = search (rules, c.insert_items.ensures.memory, made);
      left = (c.into_iter.result, made, c.insert_items.ensures.left);
      own = own-inserted_all g.K.Hash.hash_input g.K.PartialEq.eq c.args.self.now.entries c.insert_items.new.self.entries put.items put.entries;
    }
