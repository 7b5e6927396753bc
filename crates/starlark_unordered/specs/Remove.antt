-- What removing the pair of a slot leaves.
use Rattle.std.specs.Prelude.{◌≡◌, ◌+◌, ◌∷◌, ℕ, Bool, Some, IsPermutation}
use Rattle.starlark_table.specs.Table.{Table, item_in, table_len}
use Rattle.starlark_unordered.specs.Pairs.{pairs_of, HasDistinctKeys}

-- the pair in a slot of a map with distinct keys was removed, and its room came back
pub record TakesSlot {K V : Type 0} (eq : K → K → Bool) (old new : Table (K × V)) (slot : ℕ) (taken : K × V) : Type 0 where
  pub pair : item_in old slot ≡ Some taken
  pub distinct : HasDistinctKeys eq (pairs_of old)
  pub rest : IsPermutation (pairs_of old) (taken ∷ pairs_of new)
  pub room : table_len new + new.room ≡ table_len old + old.room
