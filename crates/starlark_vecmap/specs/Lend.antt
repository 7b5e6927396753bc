-- The value of a `VecMap` once a reference into it has ended.
use Rattle.std.specs.Prelude.{ℕ}
use Rattle.std.specs.Borrow.{Fml, RattleType, MutBor, GName, Lends, follows}
use Rattle.starlark_hash.specs.Entries.{set_value_at}
use Rattle.starlark_vecmap.specs.EntryList.{EntryList, with_entries, with_values}
use Rattle.starlark_vecmap.specs.contracts.vec_map.VecMap.{the_row}

module _ (K V : RattleType) (s : MutBor (EntryList K.Denot V.Denot)) where
  -- once the `&mut` has ended, the map has at the index the value that was written through it, and all else stays
  abbrev pub lends_value : ℕ → MutBor V.Denot → Fml
  lends_value i r = Lends (the_row K V) V s r (λ w. with_entries s.now (set_value_at s.now.entries i w))

  -- the map ends with the values that the loan of this name ends with; keys, hashes and capacity stay
  abbrev pub values_follow : GName → Fml
  values_follow γ = follows (the_row K V) (the_row K V) s.ghost_name γ (λ w. with_entries s.now (with_values s.now.entries w.entries))
