use Rattle.starlark_hash.proofs.Common.{◌≡◌, ◌∙◌, None, [], ap, map, refl, update_all}
use Rattle.std.specs.Map.{lookup}
use Rattle.starlark_hash.specs.Entries.{pair_of}
use Rattle.starlark_small.proofs.CallerCollect.{run_of}
use Rattle.starlark_small.proofs.CallerOwn.{own-empty}
use Rattle.starlark_dict.specs.Dict.{insert_all}
use Rattle.starlark_dict.proofs.Collected.{found-insert_all, pairs-inserted_all}
use Rattle.starlark_dict.proofs.OwnPairs.{unique-own}
use Rattle.starlark_dict.proofs.dict.collect.DictFromIteratorTuple2.from_iter.Goals as goal

pub returns-clause-ran : goal.returns-clause-ran
returns-clause-ran g c =
    let eq = g.K.PartialEq.eq in
    let feeds = g.K.Hash.hash_input in
    let alike = g.met.K.Hash.respects_eq in
    let made = c.in_ok-map.ensures.made in
    let all = made.map in
    let pairs = ap (map pair_of) all.entries ∙ pairs-inserted_all eq feeds alike [] all.items (own-empty feeds [] refl) in (
      all.it,
      all.items,
      all.made,
      (all.drained.1.0, all.drained.1.1, λ _. (all.drained.0, all.drained.1.2)),
      pairs,
      (λ q. ap (lookup (eq q)) pairs ∙ found-insert_all eq g.met.K.Eq.laws [] all.items q, unique-own eq feeds alike c.in_ok-map.map.entries c.iter_hashed.ensures.single made.own),
    )

pub returns-clause-items : goal.returns-clause-items
returns-clause-items g c =
    let eq = g.K.PartialEq.eq in
    let feeds = g.K.Hash.hash_input in
    let all = c.in_ok-map.ensures.made.map in
    let ps = map pair_of c.in_ok-map.map.entries in
    let pairs = ap (map pair_of) all.entries ∙ pairs-inserted_all eq feeds g.met.K.Hash.respects_eq [] all.items (own-empty feeds [] refl) in
    (all.it, all.made, run_of g.I.IntoIter.Iterator.next_gives all.it all.items (λ xs. ps ≡ insert_all eq [] xs) all.drained pairs)

pub returns-clause-found : goal.returns-clause-found
returns-clause-found g c =
    let eq = g.K.PartialEq.eq in
    let feeds = g.K.Hash.hash_input in
    let all = c.in_ok-map.ensures.made.map in
    let ps = map pair_of c.in_ok-map.map.entries in
    let pairs : ps ≡ insert_all eq [] all.items = ap (map pair_of) all.entries ∙ pairs-inserted_all eq feeds g.met.K.Hash.respects_eq [] all.items (own-empty feeds [] refl) in
    (all.it, all.made, run_of g.I.IntoIter.Iterator.next_gives all.it all.items (λ xs. (q : g.row.K.Denot) → lookup (eq q) ps ≡ update_all eq (λ _. None) xs q) all.drained (λ q. ap (lookup (eq q)) pairs ∙ found-insert_all eq g.met.K.Eq.laws [] all.items q))
