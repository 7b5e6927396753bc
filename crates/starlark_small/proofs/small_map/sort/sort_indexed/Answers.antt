use Rattle.starlark_hash.proofs.Common.{◌≡◌, List, Result, Ok, Err, OnOk, OnErr, None, ap, refl, ◌∙◌, length, arith, common_steps}
use Rattle.starlark_hash.specs.Entries.{Entry}
use Rattle.starlark_hash.specs.Sort.{key_lt}
use Rattle.starlark_hash.proofs.SortingLemmas.{key_lt-order, length-sorted_by, sorted_by-fixed}
use Rattle.starlark_vecmap.specs.EntryList.{EntryList, with_entries}
use Rattle.starlark_small.specs.Index.{IsIndexed}
use Rattle.starlark_small.proofs.Indexed.{cleared-room, follows-refilled}
use Rattle.starlark_small.proofs.small_map.sort.sort_indexed.Goals as goal

-- a sort without an index, which may be refused, leaves as many entries
as_many : {K V X E : Type 0} (r : Result X E) (old new : EntryList K V) (sorted : List (Entry K V)) → length sorted ≡ length old.entries → OnOk r (new ≡ with_entries old sorted) → OnErr r (new ≡ old) → length new.entries ≡ length old.entries
as_many (Ok x) old new sorted size done kept = ap (λ l. length l.entries) done ∙ size
as_many (Err e) old new sorted size done kept = ap (λ l. length l.entries) kept

pub returns-then-is_none-clause-follows : goal.returns-then-is_none-clause-follows
returns-then-is_none-clause-follows g c =
    let old = c.args.entries.now in
    let new = c.sort_keys.new.self in
    let size = as_many _ old new _ (length-sorted_by (key_lt g.K.Ord.cmp) old.entries) c.sort_keys.ensures.sorted c.sort_keys.ensures.unchanged in
    let none : c.args.index.now ≡ None = grind (arith, common_steps, c.table.ensures.there, c.is_none.ensures, c.if-is_none.true) in
    let short : IsIndexed old.entries None = rw none at c.requires in
    rw none (record { indexed = omega (arith, size, short); room = omega (arith, size); kept = refl })

pub returns-then-is_sorted_by_key-clause-sorted : goal.returns-then-is_sorted_by_key-clause-sorted
returns-then-is_sorted_by_key-clause-sorted g c =
    rw (sorted_by-fixed (key_lt g.K.Ord.cmp) (key_lt-order g.met.K.Ord.total) c.args.entries.now.entries (rw c.if-is_sorted_by_key.true at c.is_sorted_by_key.ensures)) refl

pub note_all-requires : goal.note_all-requires
note_all-requires g c =
    let es = c.sort_and_rename.new.entries.entries in
    let size = ap (λ l. length l.entries) c.in_ok-sort_keys.ensures.sorted ∙ length-sorted_by (key_lt g.K.Ord.cmp) es in
    cleared-room es _ c.sort_and_rename.new.index c.clear.new.self (omega (arith, size)) c.sort_and_rename.ensures.follows.indexed c.clear.ensures

pub returns-clause-follows : goal.returns-clause-follows
returns-clause-follows g c =
    let es = c.sort_and_rename.new.entries.entries in
    let size = ap (λ l. length l.entries) c.in_ok-sort_keys.ensures.sorted ∙ length-sorted_by (key_lt g.K.Ord.cmp) es in
    let now = follows-refilled c.sort_and_rename.new.entries c.sort_keys-2.new.self c.sort_and_rename.new.index c.clear.new.self c.note_all.new.self (omega (arith, size)) c.sort_and_rename.ensures.follows.indexed c.clear.ensures c.note_all.ensures in
    grind (arith, now, c.sort_and_rename.ensures.follows)
