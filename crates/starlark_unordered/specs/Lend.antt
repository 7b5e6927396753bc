-- What an `UnorderedMap` ends as after a reference into it, or into an inserted pair, has ended.
use Rattle.std.specs.Prelude.{◌≡◌, ℕ, Bool, List, Option, Some, IsSome, ◌∷◌, Result, Err, IsOk, OnOk, OnErr, IfErr, IfOk, IsPermutation, MatchResult}
use Rattle.std.specs.Option.{OnSome, IfNone}
use Rattle.std.specs.Borrow.{Fml, GName, RattleType, MutBor, Lends, LendsSo, follows, Bor, follows_so, name_if_ok}
use Rattle.starlark_table.specs.Table.{Table, item_in, GrowsAsNeeded}
use Rattle.starlark_table.specs.Lend.{with_values}
use Rattle.starlark_unordered.specs.Lookup.{found, Trades, Writes}
use Rattle.starlark_unordered.specs.Pairs.{pairs_of, with_value, IsWritten}
use Rattle.starlark_unordered.specs.contracts.unordered_map.UnorderedMap.{the_row}
use Rattle.starlark_hash.specs.declared.no_room.NoRoom.{NoRoom}

-- what a clause names as `K.Hash`: the equality of keys, and what a key feeds to a hasher
abbrev pub HashMembers : Type 0 → Type 0
HashMembers K = record { eq : K → K → Bool; hash_input : K → List (List ℕ) }

-- the type of maps whose keys compare and feed in this way
abbrev pub map_row : (K V : RattleType) → HashMembers K.Denot → RattleType
map_row K V g = the_row K V (record { eq = g.eq }) (record { hash_input = g.hash_input })

-- what `get_mut` leaves: new is old with this value at the key that passes, if there is one, and by any measure the value
-- weighs in place of the one before
abbrev pub WritesThrough : {K V : Type 0} → (K → K → Bool) → (K → Bool) → Table (K × V) → Option (MutBor V) → V → Table (K × V) → Type 0
WritesThrough eq t old r value new = OnSome r (IsWritten t old value new) × (IsSome (found t (pairs_of old)) → Writes eq t old new (Some value))
    × (IsSome (found t (pairs_of old)) → Trades old new (found t (pairs_of old)) (Some value))

module _ (K V : RattleType) (g : HashMembers K.Denot) (s : MutBor (Table (K.Denot × V.Denot))) where
  -- the value in the slot ends as what is left behind the reference, and all else is unchanged
  abbrev pub lends_value : ℕ → MutBor V.Denot → Fml
  lends_value slot r = Lends (map_row K V g) V s r (with_value s.now slot)

  -- the value at the key that passes ends as what is left behind the reference, and all else is unchanged; if no key passes,
  -- the map is unchanged
  abbrev pub lends_at : (K.Denot → Bool) → Option (MutBor V.Denot) → Fml
  lends_at t r = LendsSo (map_row K V g) V s r (λ n w. WritesThrough g.eq t s.now r w n) (λ n. IfNone r (n ≡ s.now))

  -- the map ends with the values that the loan of this name ends with, each in its own slot and under its own key; all else
  -- is unchanged
  abbrev pub values_follow : GName → Fml
  values_follow γ = follows (map_row K V g) (map_row K V g) s.ghost_name γ (with_values s.now)

-- new is old with one more pair, and has grown only if there was no room
pub record IsAdded {K V : Type 0} (old : Table (K × V)) (key : K) (value : V) (new : Table (K × V)) : Type 0 where
  pub pairs : IsPermutation ((key, value) ∷ pairs_of old) (pairs_of new)
  pub room : GrowsAsNeeded old new

-- the pair in the returned slot is lent, or the refusal is passed on
pub record LendsSlot {K V E : Type 0} (m : Table (K × V)) (placed : Result ℕ E) (result : Result (Bor K × MutBor V) E) : Type 0 where
  pub shown : IfOk placed (λ slot. IfOk result (λ p. item_in m slot ≡ Some (p.0.now, p.1.now)))
  pub refusal : MatchResult placed (λ _. IsOk result) (λ e. result ≡ Err e)

module _ {K V B : Type 0} where
  -- a pair was inserted into the returned slot of the lent map, where any value may then be written; or it comes back
  -- because there was no room
  pub record PutsPair (lent held : MutBor (Table (K × V))) (key : K) (value : V) (back : B) (result : Result ℕ (NoRoom B)) : Type 0 where
    pub same_map : held.ghost_name ≡ lent.ghost_name
    pub placed : IfOk result (λ slot. item_in held.now slot ≡ Some (key, value))
    pub added : OnOk result (IsAdded lent.now key value held.now)
    pub written : IfOk result (λ slot. (w : V) → IsAdded lent.now key w (with_value held.now slot w))
    pub full : OnErr result (lent.now.room ≡ 0)
    pub handed_back : IfErr result (λ refused. refused.0 ≡ back)
    pub unchanged : OnErr result (held.now ≡ lent.now)

module _ (K V : RattleType) (g : HashMembers K.Denot) (s : MutBor (Table (K.Denot × V.Denot))) {E : Type 0} where
  -- the value in the returned slot ends as what is left behind the reference, and all else is unchanged
  abbrev pub lends_placed : Result ℕ E → Result (Bor K.Denot × MutBor V.Denot) E → Fml
  lends_placed placed r =
      follows_so (map_row K V g) V s.ghost_name (name_if_ok (λ p. p.1.ghost_name) r) (λ w n. IfOk placed (λ slot. n ≡ with_value s.now slot w)) (λ n. OnErr r (n ≡ s.now))

  -- the map ends with one more pair, whose value is what is left behind the reference; if the insertion was refused, the map
  -- is unchanged
  abbrev pub lends_added : K.Denot → Result (Bor K.Denot × MutBor V.Denot) E → Fml
  lends_added key r =
      follows_so (map_row K V g) V s.ghost_name (name_if_ok (λ p. p.1.ghost_name) r) (λ w n. OnOk r (IsAdded s.now key w n)) (λ n. OnErr r (n ≡ s.now))
