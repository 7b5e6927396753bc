-- The precondition and the result of `map_values`.
use Rattle.std.specs.Prelude.{◌≡◌, ℕ, List, [], ◌∷◌, ◌++◌, IsPermutation}
use Rattle.std.specs.Fn.{Mut, Takes, Called}
use Rattle.starlark_table.specs.Table.{Table, members, table_capacity}
use Rattle.starlark_table.specs.Walk.{CanWalk}

module _ {F V W : Type 0} (g : Mut F (V × Unit {0}) W) where
  -- each call on a value returns this change of it, and leaves f unchanged
  abbrev pub GivesChange : F → (V → W) → Type 0
  GivesChange f change = (v : V) (w : W) (left : F) → Called g f (v, tt) w left → (w ≡ change v) × (left ≡ f)

module _ {F V W : Type 0} (g : Mut F (V × Unit {0}) W) {K : Type 0} where
  -- f may be called on each value in turn, in any state that its earlier calls may leave
  abbrev pub CanMapValues : List (K × V) → F → Type 0
  CanMapValues = CanWalk (λ f p. Takes g f (p.1, tt)) (λ f p f'. (w : W) × Called g f (p.1, tt) w f')

  -- f was called on each value in turn; new has its results, under the same keys
  abbrev pub MapsValues : F → List (K × V) → List (K × W) → F → Type 0
  MapsValues f [] new last = (new ≡ []) × (last ≡ f)
  MapsValues f (p ∷ ps) new last = (w : W) × (next : F) × (rest : List (K × W)) × Called g f (p.1, tt) w next × (new ≡ (p.0, w) ∷ rest) × MapsValues next ps rest last

  -- f was called on each member's value in turn; new has its results, under the same hashes and keys
  abbrev pub MapsMembers : F → List (ℕ × (K × V)) → List (ℕ × (K × W)) → F → Type 0
  MapsMembers f [] new last = (new ≡ []) × (last ≡ f)
  MapsMembers f (m ∷ ms) new last = (w : W) × (next : F) × (rest : List (ℕ × (K × W))) × Called g f (m.1.1, tt) w next × (new ≡ (m.0, (m.1.0, w)) ∷ rest) × MapsMembers next ms rest last

  -- each member was inserted into a table, with what f returned for its value, and the table's capacity is unchanged
  pub record MapsInto (f : F) (walk : List (ℕ × (K × V))) (old new : Table (K × W)) : Type 0 where
    pub room : table_capacity new ≡ table_capacity old
    pub maps : (last : F) × (all : List (ℕ × (K × W))) × MapsMembers f walk all last × IsPermutation (all ++ members old) (members new)
