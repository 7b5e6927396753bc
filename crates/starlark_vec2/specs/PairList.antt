-- A list of pairs with a capacity. The model of an iterator over it is the list of what is left; `next` and `next_back`
-- are `TakesFirst` and `TakesLast` of std.
use Rattle.std.specs.Prelude.{◌≡◌, ◌⊎◌, ℕ, List, map, length}

-- the pairs, and how many of them there may be before the list grows
pub record PairList (A B : Type 0) : Type 0 where
  pub pairs : List (A × B)
  pub capacity : ℕ

module _ {A B : Type 0} where
  -- these pairs and this capacity
  abbrev pub pair_list : List (A × B) → ℕ → PairList A B
  pair_list ps n = record { pairs = ps; capacity = n }

  -- the first parts in order
  abbrev pub firsts_of : List (A × B) → List A
  firsts_of ps = map (λ p. p.0) ps

  -- the second parts in order
  abbrev pub seconds_of : List (A × B) → List B
  seconds_of ps = map (λ p. p.1) ps

  -- the list with these pairs and its own capacity
  abbrev pub with_pairs : PairList A B → List (A × B) → PairList A B
  with_pairs v ps = pair_list ps v.capacity

  -- the length is the capacity
  abbrev pub IsFull : PairList A B → Type 0
  IsFull v = length v.pairs ≡ v.capacity

  -- the list is unchanged, or as full as its capacity allows
  abbrev pub StaysOrIsFull : PairList A B → PairList A B → Type 0
  StaysOrIsFull old new = (new ≡ old) ⊎ IsFull new
