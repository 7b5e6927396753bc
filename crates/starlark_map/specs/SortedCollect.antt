-- Sorted maps, sets and vectors made of others or of an iterator's items; and iterators without items.
use Rattle.std.specs.Prelude.{◌≡◌, [], Bool, IfErr, IfOk, IsOk, List, Option, Result}
use Rattle.std.specs.Hash.{HashWrites}
use Rattle.std.specs.Iterator.{Count, Drains, size}
use Rattle.std.specs.List.Sorted.{IsPermutation, IsStable}
use Rattle.std.specs.declared.cmp.Ordering.{Ordering}
use Rattle.starlark_hash.specs.Sort.{Ascends}
use Rattle.starlark_small.specs.Lookup.{AreOwn, IsSameAt, keys}
use Rattle.starlark_small.specs.Map.{KeepsMemory, Map}
use Rattle.starlark_map.specs.Sorted.{AscendsAlong, IsSortedOf}

-- the source was sorted by key: its keys ascend, each has the value it had, and those stored under their own hashes still
-- are. Or the source was handed back with its entries unchanged, which does not happen if its keys ascend already. In both
-- cases no room is lost, and capacity and hash index are unchanged
pub record SortsInto {K V : Type 0} (eq : K → K → Bool) (cmp : K → K → Ordering) (source : Map K V) (r : Result (Map K V) (Map K V)) : Type 0 where
  pub sorted : IfOk r (IsSortedOf cmp source)
  pub along : IfOk r (λ m. AscendsAlong cmp (keys m))
  pub same : IfOk r (IsSameAt eq source)
  pub own : IfOk r (λ m. (feeds : K → HashWrites) → AreOwn feeds source → AreOwn feeds m)
  pub handed_back : IfErr r (λ back. back.entries ≡ source.entries)
  pub kept : IfErr r (KeepsMemory source)
  pub succeeds : Ascends cmp source.entries → IsOk r

module _ {U S T : Type 0} (cmp : T → T → Ordering) (becomes : U → S → Type 0) (steps : S → Option T → S → Type 0) (iter : U) where
  -- the list has every item of the iterator, as often as the iterator returns it, with equal items in their order
  abbrev pub HasEveryItem : List T → Type 0
  HasEveryItem sorted = (it : S) × (items : List T) × becomes iter it × Drains steps it items × IsPermutation items sorted × IsStable cmp items sorted

module _ {U S T : Type 0} (becomes : U → S → Type 0) (steps : S → Option T → S → Type 0) (remaining : S → Count) where
  -- the iterator has no items, and its bounds say so
  abbrev pub GivesNothing : U → Type 0
  GivesNothing iter = (it : S) → becomes iter it → (size (remaining it) ≡ 0) × ((items : List T) → Drains steps it items → items ≡ [])
