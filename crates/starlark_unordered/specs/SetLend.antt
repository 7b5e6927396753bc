-- What an `UnorderedSet` ends as after a raw entry of it has ended.
use Rattle.std.specs.Borrow.{Fml, RattleType, MutBor, follows, unit}
use Rattle.starlark_unordered.specs.Lend.{HashMembers, map_row}
use Rattle.starlark_unordered.specs.Set.{Set}
use Rattle.starlark_unordered.specs.contracts.unordered_set.UnorderedSet.{the_row}
use Rattle.starlark_unordered.specs.declared.unordered_set.raw_entry.RawEntryBuilderMut.{RawEntryBuilderMut}

-- the set ends as the map that the entry was lent
abbrev pub lends_entry : (T : RattleType) (g : HashMembers T.Denot) → MutBor (Set T.Denot) → RawEntryBuilderMut T.Denot → Fml
lends_entry T g s entry = follows (the_row T (record { eq = g.eq }) (record { hash_input = g.hash_input })) (map_row T unit g) s.ghost_name entry.map.ghost_name (λ m. m)
