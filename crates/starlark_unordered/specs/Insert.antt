-- What an insertion into an `UnorderedMap` or an `UnorderedSet` leaves. A set is a map to `()`.
use Rattle.std.specs.Prelude.{◌≡◌, ◌+◌, ◌∷◌, Bool, None, Some, length, IsPermutation}
use Rattle.starlark_table.specs.Table.{Table}
use Rattle.starlark_unordered.specs.Lookup.{get, Trades, Updates}
use Rattle.starlark_unordered.specs.Pairs.{pairs_of}

module _ {K V : Type 0} (eq : K → K → Bool) (old new : Table (K × V)) (key : K) where
  -- new is old with one more pair, whose key old lacks
  pub record AddsPair (value : V) : Type 0 where
    pub updates : Updates eq old new key (Some value)
    pub count : length (pairs_of new) ≡ length (pairs_of old) + 1
    pub total : Trades old new None (Some value)
    pub pairs : IsPermutation ((key, value) ∷ pairs_of old) (pairs_of new)

  -- the insertion of a pair whose key old lacks was refused because there was no room, and nothing changed
  pub record IsRefusedPair : Type 0 where
    pub lacking : get eq old key ≡ None
    pub full : old.room ≡ 0
    pub unchanged : new ≡ old
