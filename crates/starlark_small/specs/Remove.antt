-- Removals from a `SmallMap`. Sets and ordered types cite these definitions too: a set is a map to `()`.
use Rattle.std.specs.Prelude.{◌≡◌, ℕ, ◌+◌, length, remove, if◌then◌else◌, Bool, false, Some, None, is_some}
use Rattle.std.specs.Hash.{HashWrites}
use Rattle.starlark_hash.specs.declared.hash_value.StarlarkHashValue.{StarlarkHashValue}
use Rattle.starlark_hash.specs.Entries.{position_of, without}
use Rattle.starlark_hash.specs.Lookup.{found, Writes}
use Rattle.starlark_small.specs.Map.{Map, KeepsMemory}
use Rattle.starlark_small.specs.Lookup.{get, Updates, AreOwn}

module _ {K V : Type 0} (eq : K → K → Bool) where
  -- the entry under a hash whose key passes a test was removed, if there was one. The fields say it of the list, of look-ups and of
  -- the length. Keys under their own hashes stay so, no room is lost, and capacity and hash index stay
  pub record Removes (test : K → Bool) (hash : StarlarkHashValue) (old new : Map K V) : Type 0 where
    pub entries : new.entries ≡ without old.entries (position_of hash test old.entries)
    pub updates : Writes eq test hash old.entries new.entries None
    pub count : length old.entries ≡ length new.entries + (if is_some (found test hash old.entries) then 1 else 0)
    pub own : (feeds : K → HashWrites) → AreOwn feeds old → AreOwn feeds new
    pub kept : KeepsMemory old new

  -- the entry with this key and value was removed. Each key that is not equal to it has what it had. If keys are under their own
  -- hashes, the value was found at the key, and now nothing is
  pub record TakesOut (old new : Map K V) (key : K) (value : V) : Type 0 where
    pub others : (under : StarlarkHashValue) (other : K) → eq key other ≡ false → found (eq other) under new.entries ≡ found (eq other) under old.entries
    pub was : (feeds : K → HashWrites) → AreOwn feeds old → get eq feeds old key ≡ Some value
    pub gone : (feeds : K → HashWrites) → AreOwn feeds old → Updates eq feeds old new key None

module _ {K V : Type 0} where
  -- what was at an index was removed, if something was there
  pub record RemovesAt (old new : Map K V) (index : ℕ) : Type 0 where
    pub entries : new.entries ≡ remove old.entries index
    pub own : (feeds : K → HashWrites) → AreOwn feeds old → AreOwn feeds new
    pub kept : KeepsMemory old new
