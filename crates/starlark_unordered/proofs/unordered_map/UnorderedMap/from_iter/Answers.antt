use Rattle.starlark_hash.proofs.Common.{Err, rules, arith, ◌≡◌, refl, None, update_all}
use Rattle.starlark_unordered.specs.Lookup.{get}
use Rattle.starlark_unordered.specs.Pairs.{pairs_of}
use Rattle.starlark_unordered.proofs.Collection.{found-collected, most-collected, run_of}
use Rattle.starlark_unordered.proofs.unordered_map.UnorderedMap.from_iter.Goals as goal

pub returns : goal.returns
returns g c =
    let eq = g.K.PartialEq.eq in
    let new = c.insert_items.new.self in
    let it = c.into_iter-items.result in
    let becomes = c.into_iter-items.ensures.into_iter_gives in
    let (xs, drains, put) = c.in_ok-insert_items.ensures.pairs in
    let grows = c.insert_items.ensures.memory in
    let empty = c.in_ok-map.ensures in
    let made = rw empty.empty at put in
    let last = found-collected eq g.met.K.Eq.laws xs (pairs_of new) made in
    let found = run_of g.I.IntoIter.Iterator.next_gives it xs (λ xs. (key : g.row.K.Denot) → get eq new key ≡ update_all eq (λ _. None) xs key) drains last in
    let most = most-collected c.in_ok-map.map new c.size_hint.result.0 empty.empty empty.most grows in
    record {
      found = (it, becomes, found);
      pairs = (it, c.size_hint.result.0, xs, becomes, c.size_hint.ensures.lower, drains, made, omega (arith, grows.least, empty.room), most);
      none_for_none = λ none. refl;
    }

pub returns-in_err-insert_items : goal.returns-in_err-insert_items
returns-in_err-insert_items g c =
    let is : c.from_residual-in_err-insert_items.result ≡ Err c.in_err-insert_items.field-0.0 = search rules in
    rw is (record { found = tt; pairs = tt; none_for_none = λ none. c.in_err-insert_items.ensures.none_for_none (none c.into_iter-items.result c.into_iter-items.ensures.into_iter_gives) })
