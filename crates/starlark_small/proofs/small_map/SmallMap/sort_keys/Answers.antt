use Rattle.starlark_hash.proofs.Common.{on_ok_weaker, ◌≡◌, List, Result, Ok, Err, arith, refl, rules, subst, sym, map, IsPermutation, common_steps, IsPermutation-refl, length_permutation, IsSorted, OnOk, OnErr}
use Rattle.starlark_hash.specs.Entries.{Entry, entry_key}
use Rattle.starlark_hash.specs.Sort.{key_lt, sorted_by_key}
use Rattle.starlark_hash.proofs.EntryLemmas.{IsSingle-permutation}
use Rattle.starlark_hash.proofs.SortingLemmas.{IsPermutation-sorted_by}
use Rattle.starlark_vecmap.specs.EntryList.{EntryList, with_entries}
use Rattle.starlark_small.specs.Index.{map_of}
use Rattle.starlark_small.proofs.CallerSort.{keys-sorted, same-permuted}
use Rattle.starlark_small.proofs.Rooms.{KeepsMemory-turned}
use Rattle.starlark_small.proofs.CallerOwn.{own-permuted}
use Rattle.starlark_small.proofs.small_map.SmallMap.sort_keys.Goals as goal

-- a sort that may be refused puts the entries into another order, or leaves them
turned : {K V X E : Type 0} (Q : Type 0) (r : Result X E) (old new : EntryList K V) (sorted : List (Entry K V)) → IsPermutation old.entries sorted → OnOk r (new ≡ with_entries old sorted) → OnErr r ((new ≡ old) × Q)
    → IsPermutation old.entries new.entries × (new.capacity ≡ old.capacity)
turned Q (Ok x) old new sorted moved done kept = rw done (moved, refl)
turned Q (Err e) old new sorted moved done kept = rw kept.0 (IsPermutation-refl old.entries, refl)

pub invariant_of-self : goal.invariant_of-self
invariant_of-self g c =
    let es = c.self.inside.entries.entries in
    let new = c.sort_indexed.new.entries in
    let is = turned _ c.sort_indexed.result c.self.inside.entries new (sorted_by_key g.K.Ord.cmp es) (IsPermutation-sorted_by (key_lt g.K.Ord.cmp) es) c.sort_indexed.ensures.sorted c.sort_indexed.ensures.unchanged in
    assumption (IsSingle-permutation g.K.PartialEq.eq g.met.K.Eq.laws es new.entries c.self.invariant.single is.0)

pub returns : goal.returns
returns g c =
    let cmp = g.K.Ord.cmp in
    let es = c.self.inside.entries.entries in
    let new = c.sort_indexed.new.entries in
    let is = turned _ c.sort_indexed.result c.self.inside.entries new (sorted_by_key cmp es) (IsPermutation-sorted_by (key_lt cmp) es) c.sort_indexed.ensures.sorted c.sort_indexed.ensures.unchanged in
    let sorted = λ (done : new ≡ with_entries c.self.inside.entries (sorted_by_key cmp es)). subst (λ l. IsSorted cmp (map (entry_key {V = g.row.V.Denot}) l.entries)) (sym done) (keys-sorted g.met.K.Ord.total es) in
    rw (← c.self.view_is)
    (record {
      entries = first_of (search rules, grind (arith, common_steps));
      unchanged = first_of (search rules, grind (arith, common_steps));
      count = length_permutation es new.entries is.0;
      sorted = on_ok_weaker c.sort_indexed.result sorted c.sort_indexed.ensures.sorted;
      same = same-permuted g.K.PartialEq.eq g.met.K.Eq.laws _ _ c.self.invariant.single is.0;
      own = λ feeds. own-permuted feeds _ _ is.0;
      at_once = λ ascends. let kept = c.sort_indexed.ensures.at_once ascends in (kept.0, λ j. map_of (kept.1 j) (kept.2 j));
      kept = KeepsMemory-turned c.self.inside.entries new c.self.inside.index c.sort_indexed.new.index (length_permutation es new.entries is.0) is.1 c.sort_indexed.ensures.follows.room c.sort_indexed.ensures.follows.kept;
    })
