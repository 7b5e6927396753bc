-- What a `SortedMap` ends as after a reference into it has ended.
use Rattle.std.specs.Prelude.{◌≡◌, Bool, Option, Some, IsSome}
use Rattle.std.specs.Borrow.{Fml, RattleType, MutBor, GName, LendsSo, follows}
use Rattle.std.specs.Hash.{HashWrites}
use Rattle.std.specs.declared.cmp.Ordering.{Ordering}
use Rattle.starlark_hash.specs.declared.hash_value.StarlarkHashValue.{StarlarkHashValue}
use Rattle.starlark_hash.specs.Entries.{position_of, with_value}
use Rattle.starlark_vecmap.specs.EntryList.{with_values}
use Rattle.starlark_small.specs.Lookup.{keys, AreOwn}
use Rattle.starlark_small.specs.Map.{Map}
use Rattle.starlark_small.specs.contracts.small_map.SmallMap as small
use Rattle.starlark_hash.specs.Lookup.{Writes, found}
use Rattle.starlark_map.specs.contracts.sorted_map.SortedMap as sorted

module _ (K V : RattleType) (cmp : K.Denot → K.Denot → Ordering) (eq : K.Denot → K.Denot → Bool) (partial_cmp : K.Denot → K.Denot → Option Ordering) (feeds : K.Denot → HashWrites) where
  -- the type of sorted maps whose keys compare and feed a hasher in this way
  abbrev the_row : RattleType
  the_row = sorted.the_row K V (record { cmp = cmp }) (record { eq = eq }) (record { partial_cmp = partial_cmp }) (record { hash_input = feeds })

  module _ (s : MutBor (Map K.Denot V.Denot)) where
    -- The value that a test finds under a hash ends as what is left behind the reference, and all else is unchanged:
    -- look-ups, the order of the keys, and which keys are stored under their own hashes. If the value is left as it was, the
    -- map is unchanged. If there is no such value, the map is unchanged.
    abbrev pub lends_get : (K.Denot → Bool) → StarlarkHashValue → Option (MutBor V.Denot) → Fml
    lends_get test hash r = LendsSo the_row V s r
        (λ n w. (n ≡ record s.now { entries = with_value s.now.entries (position_of hash test s.now.entries) w }) × (keys n ≡ keys s.now)
        × (IsSome (found test hash s.now.entries) → Writes eq test hash s.now.entries n.entries (Some w))
        × ((feeds : K.Denot → HashWrites) → AreOwn feeds s.now → AreOwn feeds n) × (found test hash s.now.entries ≡ Some w → n ≡ s.now))
        (λ n. n ≡ s.now)

    -- the map ends with the values that the loan of this name ends with, and all else is unchanged
    abbrev pub values_follow : GName → Fml
    values_follow γ = follows the_row (small.the_row K V (record { eq = eq })) s.ghost_name γ (λ w. record s.now { entries = with_values s.now.entries w.entries })
