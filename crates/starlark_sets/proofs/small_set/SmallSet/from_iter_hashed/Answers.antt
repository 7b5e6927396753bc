use Rattle.starlark_hash.proofs.Common.{◌≡◌, [], map, sym, subst, HashWrites}
use Rattle.starlark_small.specs.Collect.{insert_all}
use Rattle.starlark_small.specs.Lookup.{AreOwn, AreOwnEntries}
use Rattle.starlark_small.proofs.CallerOwn.{own-inserted_entries}
use Rattle.starlark_sets.specs.Collect.{element_entry}
use Rattle.starlark_sets.proofs.Collecting.{collects_alone, collected}
use Rattle.starlark_sets.proofs.small_set.SmallSet.from_iter_hashed.Goals as goal

pub returns-clause-set : goal.returns-clause-set
returns-clause-set g c = collects_alone c.new.result (subst (g.I.IntoIterator.into_iter_gives c.args.iter) (sym c.new.ensures) c.into_iter.ensures.into_iter_gives) c.in_ok-from_iter_hashed.ensures.map

pub returns-clause-own : goal.returns-clause-own
returns-clause-own g c =
    let set = c.in_ok-from_iter_hashed.field-0 in
    collected set (returns-clause-set g c) (λ xs. (feeds : g.row.T.Denot → HashWrites) → AreOwnEntries feeds (map element_entry xs) → AreOwn feeds set)
    (λ xs is feeds own. own-inserted_entries feeds g.T.PartialEq.eq set.entries (map element_entry xs) is own)

pub returns-clause-each : goal.returns-clause-each
returns-clause-each g c =
    let set = c.in_ok-from_iter_hashed.field-0 in collected set (returns-clause-set g c) (λ xs. set.entries ≡ insert_all g.T.PartialEq.eq [] (map element_entry xs)) (λ xs is. is)
