use Rattle.starlark_hash.proofs.Common.{◌+◌, ◌≡◌, ◌≤◌, ◌∙◌, ap, arith, is_some, length, map, sym, update_all}
use Rattle.std.specs.Map.{lookup}
use Rattle.starlark_hash.specs.Entries.{pair_of}
use Rattle.starlark_hash.specs.Hasher.{own_hash}
use Rattle.starlark_small.specs.Collect.{own_entry}
use Rattle.starlark_dict.specs.Dict.{insert_all}
use Rattle.starlark_dict.proofs.Collected.{ended-items, found-insert_all, length-insert_all, pairs-inserted_all, taken-in}
use Rattle.starlark_dict.proofs.Inserted.{old-value}
use Rattle.starlark_dict.proofs.OwnPairs.{length-pairs, unique-own}
use Rattle.starlark_dict.proofs.dict.collect.DictExtendTuple2.extend.Goals as goal

pub returns-clause-ran : goal.returns-clause-ran
returns-clause-ran g c =
    let eq = g.K.PartialEq.eq in
    let feeds = g.K.Hash.hash_input in
    let alike = g.met.K.Hash.respects_eq in
    let old = c.self.inside.map in
    let new = c.extend-taken.new.self in
    let own = c.self.invariant in
    let e = c.extend-taken.ensures in
    let put = e.entries.inserts in
    let ps = map pair_of old.entries in
    let pairs = ap (map pair_of) put.entries ∙ pairs-inserted_all eq feeds alike old.entries put.items own in
    let uses : old.room ≤ new.room + length put.items = omega (arith, e.memory.room, (length-insert_all eq ps put.items).1, ap length pairs, length-pairs old.entries, length-pairs new.entries) in
    rw (← c.self.view_is) (
      e.entries.it,
      put.items,
      e.entries.made,
      (pairs, (λ q. ap (lookup (eq q)) pairs ∙ found-insert_all eq g.met.K.Eq.laws ps put.items q, unique-own eq feeds alike new.entries c.iter_hashed.ensures.single (e.own own)), uses),
      ended-items g.I.IntoIter.Iterator.next_gives eq (own_entry feeds) e.entries.it old.entries new.entries c.extend-taken.result put,
    )

pub returns-clause-stays : goal.returns-clause-stays
returns-clause-stays g c =
    let eq = g.K.PartialEq.eq in
    let feeds = g.K.Hash.hash_input in
    let alike = g.met.K.Hash.respects_eq in
    let own = c.self.invariant in
    let e = c.extend-taken.ensures in
    rw (← c.self.view_is) (λ key there.
    ap is_some (sym (old-value eq feeds alike key c.extend-taken.new.self (e.own own))) ∙ e.stays (own_hash feeds key) key (ap is_some (old-value eq feeds alike key c.self.inside.map own) ∙ there))

pub returns-clause-items : goal.returns-clause-items
returns-clause-items g c =
    let eq = g.K.PartialEq.eq in
    let feeds = g.K.Hash.hash_input in
    let old = c.self.inside.map in
    let e = c.extend-taken.ensures in
    let put = e.entries.inserts in
    let steps = g.I.IntoIter.Iterator.next_gives in
    let pairs = ap (map pair_of) put.entries ∙ pairs-inserted_all eq feeds g.met.K.Hash.respects_eq old.entries put.items c.self.invariant in
    rw (← c.self.view_is)
    (taken-in steps g.I.IntoIterator.into_iter_gives c.args.iter (λ xs. map pair_of c.extend-taken.new.self.entries ≡ insert_all eq (map pair_of old.entries) xs) c.extend-taken.result e.entries.it e.entries.made put.items
    (ended-items steps eq (own_entry feeds) e.entries.it old.entries c.extend-taken.new.self.entries c.extend-taken.result put) pairs)

pub returns-clause-found : goal.returns-clause-found
returns-clause-found g c =
    let eq = g.K.PartialEq.eq in
    let feeds = g.K.Hash.hash_input in
    let old = c.self.inside.map in
    let e = c.extend-taken.ensures in
    let put = e.entries.inserts in
    let steps = g.I.IntoIter.Iterator.next_gives in
    let ps = map pair_of c.extend-taken.new.self.entries in
    let pairs : ps ≡ insert_all eq (map pair_of old.entries) put.items = ap (map pair_of) put.entries ∙ pairs-inserted_all eq feeds g.met.K.Hash.respects_eq old.entries put.items c.self.invariant in
    rw (← c.self.view_is)
    (taken-in steps g.I.IntoIterator.into_iter_gives c.args.iter (λ xs. (q : g.row.K.Denot) → lookup (eq q) ps ≡ update_all eq (λ k. lookup (eq k) (map pair_of old.entries)) xs q) c.extend-taken.result e.entries.it e.entries.made put.items
    (ended-items steps eq (own_entry feeds) e.entries.it old.entries c.extend-taken.new.self.entries c.extend-taken.result put) (λ q. ap (lookup (eq q)) pairs ∙ found-insert_all eq g.met.K.Eq.laws (map pair_of old.entries) put.items q))
