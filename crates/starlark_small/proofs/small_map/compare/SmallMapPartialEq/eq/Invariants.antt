use Rattle.starlark_hash.proofs.Common.{◌≡◌, ℕ, ◌<◌, true, get_or}
use Rattle.std_collections.specs.Map.{keys_of}
use Rattle.starlark_hash.specs.declared.hashed.Hashed.{Hashed}
use Rattle.starlark_small.specs.Compare.{agree_at}
use Rattle.starlark_small.proofs.small_map.compare.SmallMapPartialEq.eq.Given as goal

-- the lists agree at the keys before i
abbrev pub invariant-loop-i : goal.invariant-loop-i
invariant-loop-i g l = (k : ℕ) → k < l.i → (d : Hashed g.row.K.Denot)
    → agree_at g.K.PartialEq.eq g.V.PartialEq.eq l.self.entries l.other.entries (get_or (keys_of l.self.entries) k d) ≡ true
