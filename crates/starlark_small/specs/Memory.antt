-- The memory of a `SmallMap`: how far its list grows, and what a reservation leaves, done or refused.
use Rattle.std.specs.Prelude.{◌≡◌, ◌⊎◌, ℕ, Result, MatchResult, drop, length, ◌+◌, ◌≤◌, ◌||◌, nat_lt, ◌<◌, OnOk, OnErr}
use Rattle.starlark_small.specs.Map.{Map, KeepsRoom}
use Rattle.starlark_vec2.specs.PairList.{pair_list}
use Rattle.starlark_vec2.specs.Growth.{push_all}
use Rattle.starlark_vecmap.specs.EntryList.{entry_list, reserve}
use Rattle.starlark_small.specs.Index.{unindexed}

module _ {K V : Type 0} where
  -- the capacity after a reservation for n new entries: it grows only if there is no room for them
  abbrev pub reserved_capacity : Map K V → ℕ → ℕ
  reserved_capacity m n = (reserve (entry_list m.entries m.capacity) n).capacity

  -- the capacity after a reservation for n new entries was refused: the old one or, if the list had grown before the hash index was
  -- refused, that after the reservation
  abbrev pub StaysOrGrows : ℕ → Map K V → Map K V → Type 0
  StaysOrGrows n old new = (new.capacity ≡ old.capacity) ⊎ (new.capacity ≡ reserved_capacity old n)

  -- the capacity of old after single insertions of the entries that new has behind those of old
  abbrev pub stepped_capacity : Map K V → Map K V → ℕ
  stepped_capacity old new = (push_all (pair_list old.entries old.capacity) (drop (length old.entries) new.entries)).capacity

  -- new has the capacity of old after single insertions of its further entries; if one more was refused, the list may have grown for
  -- it
  abbrev pub GrowsInSteps : {A E : Type 0} → Map K V → Map K V → Result A E → Type 0
  GrowsInSteps old new r = MatchResult r (λ _. new.capacity ≡ stepped_capacity old new) (λ _. StaysOrGrows 1 (record new { capacity = stepped_capacity old new }) new)

  -- new is old with room for `additional` new entries: the entries stay, no room is lost, the capacity is that after such a
  -- reservation, and there is a hash index if there was one or if the length asked for is above the threshold
  pub record IsReserved (old : Map K V) (additional : ℕ) (new : Map K V) : Type 0 where
    pub entries : new.entries ≡ old.entries
    pub enough : additional ≤ new.room
    pub room : KeepsRoom old new
    pub capacity : new.capacity ≡ reserved_capacity old additional
    pub indexed : new.indexed ≡ (old.indexed || nat_lt unindexed (length old.entries + additional))

  -- new is old after room for `additional` new entries was refused: entries and hash index stay, no room is lost, and the capacity is
  -- the old one or that after such a reservation, so that a second refusal grows it no further
  pub record IsRefusedFor (additional : ℕ) (old new : Map K V) : Type 0 where
    pub entries : new.entries ≡ old.entries
    pub indexed : new.indexed ≡ old.indexed
    pub room : KeepsRoom old new
    pub capacity : StaysOrGrows additional old new

module _ {K V A E : Type 0} where
  -- room for `additional` new entries was made, for which there was none before; or it was refused
  pub record Reserves (additional : ℕ) (before after : Map K V) (r : Result A E) : Type 0 where
    pub reserved : OnOk r (IsReserved before additional after)
    pub enough : additional ≤ before.room → after ≡ before
    pub lacking : OnErr r (before.room < additional)
    pub refused : OnErr r (IsRefusedFor additional before after)
