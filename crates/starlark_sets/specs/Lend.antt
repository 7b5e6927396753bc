-- What a `SmallSet` and an `OrderedSet` are once the elements that a call lent are no longer read, and what an `OrderedMap` ends
-- as once a reference into it has ended.
use Rattle.std.specs.Prelude.{⊤, ◌≡◌, Bool, Option, Some, IsSome}
use Rattle.std.specs.Borrow.{Fml, RattleType, MutBor, follows_so, GName, Lends, LendsSo, follows}
use mathlib.Core.Option.{none}
use Rattle.std.specs.Hash.{HashWrites}
use Rattle.std.specs.declared.cmp.PartialEq as eq
use Rattle.starlark_sets.specs.Set.{Set}
use Rattle.starlark_sets.specs.contracts.small_set.SmallSet.{the_row as set_type}
use Rattle.starlark_sets.specs.contracts.ordered_set.OrderedSet.{the_row as ordered_set_type}
use Rattle.starlark_hash.specs.declared.hash_value.StarlarkHashValue.{StarlarkHashValue}
use Rattle.starlark_hash.specs.Entries.{position_of, with_value}
use Rattle.starlark_vecmap.specs.EntryList.{with_values}
use Rattle.starlark_small.specs.Lookup.{keys, AreOwn}
use Rattle.starlark_small.specs.Map.{Map}
use Rattle.starlark_small.specs.MapEntry.{map_of_entry}
use Rattle.starlark_small.specs.declared.entry.Entry.{Entry}
use Rattle.starlark_small.specs.contracts.small_map.SmallMap as small
use Rattle.starlark_hash.specs.Lookup.{Writes, found}
use Rattle.starlark_sets.specs.contracts.ordered_map.OrderedMap.{the_row}

module _ (T : RattleType) (g : eq.Ghosts T.Denot) (s : MutBor (Set T.Denot)) where
  -- the small set satisfies P once what a call lent of it is no longer read
  abbrev pub ends_so : (Set T.Denot → Type 0) → Fml
  ends_so P = follows_so (set_type T g) (set_type T g) s.ghost_name none (λ _ _. ⊤) P

module _ (T : RattleType) (g : eq.Ghosts T.Denot) (s : MutBor (Set T.Denot)) where
  -- the ordered set satisfies P once what a call lent of it is no longer read
  abbrev pub ordered_ends_so : (Set T.Denot → Type 0) → Fml
  ordered_ends_so P = follows_so (ordered_set_type T g) (ordered_set_type T g) s.ghost_name none (λ _ _. ⊤) P

module _ (K V : RattleType) (g : eq.Ghosts K.Denot) (s : MutBor (Map K.Denot V.Denot)) where
  -- the value that the test finds under the hash ends as what is left behind the reference, and all else stays. The fields say so
  -- of the list, of the keys in order, of look-ups, and of own hashes; and if the value is left as it was, the map is as it was.
  -- If nothing is found, the map stays
  abbrev pub lends_get : (K.Denot → Bool) → StarlarkHashValue → Option (MutBor V.Denot) → Fml
  lends_get test hash r = LendsSo (the_row K V g) V s r
      (λ n w. (n ≡ record s.now { entries = with_value s.now.entries (position_of hash test s.now.entries) w }) × (keys n ≡ keys s.now)
      × (IsSome (found test hash s.now.entries) → Writes g.eq test hash s.now.entries n.entries (Some w))
      × ((feeds : K.Denot → HashWrites) → AreOwn feeds s.now → AreOwn feeds n) × (found test hash s.now.entries ≡ Some w → n ≡ s.now))
      (λ n. n ≡ s.now)

  -- the map ends with the values with which the loan of this name ends, and all else stays
  abbrev pub values_follow : GName → Fml
  values_follow γ = follows (the_row K V g) (small.the_row K V g) s.ghost_name γ (λ w. record s.now { entries = with_values s.now.entries w.entries })

  -- the ordered map ends as the map inside is left
  abbrev pub lends_inside : MutBor (Map K.Denot V.Denot) → Fml
  lends_inside r = Lends (the_row K V g) (small.the_row K V g) s r (λ m. m)

  -- the ordered map ends as the map that the entry writes is left
  abbrev pub follows_entry : Entry K.Denot V.Denot g → Fml
  follows_entry e = follows (the_row K V g) (small.the_row K V g) s.ghost_name (map_of_entry e).ghost_name (λ m. m)
