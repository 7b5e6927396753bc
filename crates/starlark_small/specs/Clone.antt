-- A clone of a `SmallMap`. Sets and ordered types cite these definitions too.
use Rattle.std.specs.Prelude.{◌≡◌, Bool, IfOk, IsOk, IsTrue, Result, is_some, length, nat_lt}
use Rattle.std.specs.Hash.{HashWrites}
use Rattle.std.specs.List.{AllZip}
use Rattle.starlark_hash.specs.declared.hash_value.StarlarkHashValue.{StarlarkHashValue}
use Rattle.starlark_hash.specs.Clone.{IsEntryClone, IsLawfulClone}
use Rattle.starlark_hash.specs.Lookup.{found as value_found}
use Rattle.starlark_small.specs.Lookup.{AreOwn}
use Rattle.starlark_small.specs.Index.{unindexed}
use Rattle.starlark_small.specs.Map.{Map}

-- new has clones of the entries of old under the same hashes, in their order. Its capacity is their number, and it has a hash index
-- only if this many entries need one
pub record IsCloneOf {K V : Type 0} (eq : K → K → Bool) (key : K → K → Type 0) (value : V → V → Type 0) (old new : Map K V) : Type 0 where
  pub entries : AllZip (IsEntryClone key value) old.entries new.entries
  pub same : IsLawfulClone key → IsLawfulClone value → new.entries ≡ old.entries
  pub found : (under : StarlarkHashValue) (sought : K) → is_some (value_found (eq sought) under new.entries) ≡ is_some (value_found (eq sought) under old.entries)
  pub own : (feeds : K → HashWrites) → ((x y : K) → IsTrue (eq x y) → feeds x ≡ feeds y) → AreOwn feeds old → AreOwn feeds new
  pub capacity : new.capacity ≡ length old.entries
  pub indexed : new.indexed ≡ nat_lt unindexed (length old.entries)

-- a clone was made, or it was refused, which never happens where there is no entry
pub record Clones {K V E : Type 0} (eq : K → K → Bool) (key : K → K → Type 0) (value : V → V → Type 0) (old : Map K V) (r : Result (Map K V) E) : Type 0 where
  pub clone : IfOk r (IsCloneOf eq key value old)
  pub succeeds : length old.entries ≡ 0 → IsOk r
