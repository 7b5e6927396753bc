-- Reversals and sorts of a `SmallMap`. Sets and ordered types cite these definitions too.
use Rattle.std.specs.Prelude.{◌≡◌, reverse, Bool, length, Result, IsOk, IsSorted, OnErr, OnOk}
use Rattle.std.specs.Hash.{HashWrites}
use Rattle.std.specs.declared.cmp.Ordering.{Ordering}
use Rattle.starlark_hash.specs.Sort.{Ascends, sorted_by_key}
use Rattle.starlark_small.specs.Lookup.{keys, AreOwn, IsSameAt}
use Rattle.starlark_small.specs.Map.{Map, KeepsMemory}

module _ {K V : Type 0} (eq : K → K → Bool) where
  -- the entries are in reverse order
  pub record Turns (old new : Map K V) : Type 0 where
    pub entries : new.entries ≡ reverse old.entries
    pub count : length new.entries ≡ length old.entries
    pub same : IsSameAt eq old new
    pub own : (feeds : K → HashWrites) → AreOwn feeds old → AreOwn feeds new
    pub kept : KeepsMemory old new

  -- the entries were sorted by key; or that was refused, which never happens if the keys ascend already. Either way the length is
  -- unchanged, and each key has what it had
  pub record SortsByKey {A E : Type 0} (cmp : K → K → Ordering) (old new : Map K V) (result : Result A E) : Type 0 where
    pub entries : OnOk result (new.entries ≡ sorted_by_key cmp old.entries)
    pub sorted : OnOk result (IsSorted cmp (keys new))
    pub unchanged : OnErr result (new.entries ≡ old.entries)
    pub at_once : Ascends cmp old.entries → IsOk result × (new ≡ old)
    pub count : length new.entries ≡ length old.entries
    pub same : IsSameAt eq old new
    pub own : (feeds : K → HashWrites) → AreOwn feeds old → AreOwn feeds new
    pub kept : KeepsMemory old new
