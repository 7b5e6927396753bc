-- Empty maps. Sets, ordered and sorted types cite these definitions too: a set is a map to `()`.
use Rattle.std.specs.Prelude.{◌≡◌, ◌≤◌, ℕ, [], false, IfOk, IsOk, Result, nat_lt}
use Rattle.std.specs.Hash.{HashWrites}
use Rattle.starlark_small.specs.Lookup.{AreOwn, IsEmpty}
use Rattle.starlark_small.specs.Index.{unindexed}
use Rattle.starlark_small.specs.Map.{Map}

-- a map without entries, room, capacity and hash index
pub record IsBare {K V : Type 0} (m : Map K V) : Type 0 where
  pub empty : m ≡ record { entries = []; room = 0; capacity = 0; indexed = false }
  pub lacks : IsEmpty m
  pub own : (feeds : K → HashWrites) → AreOwn feeds m

-- a map without entries that has room for `many`, and a hash index if this many entries need one
pub record IsEmptyFor {K V : Type 0} (many : ℕ) (m : Map K V) : Type 0 where
  pub entries : m.entries ≡ []
  pub lacks : IsEmpty m
  pub own : (feeds : K → HashWrites) → AreOwn feeds m
  pub capacity : m.capacity ≡ many
  pub room : many ≤ m.room
  pub indexed : m.indexed ≡ nat_lt unindexed many

-- `IsEmptyFor` of the map that was made; or it was refused, which never happens for no entry
pub record MakesEmptyFor {K V E : Type 0} (many : ℕ) (r : Result (Map K V) E) : Type 0 where
  pub empty : IfOk r (IsEmptyFor many)
  pub succeeds : many ≡ 0 → IsOk r
