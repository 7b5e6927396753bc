-- The results of calls that make, fill, grow or change a hash index.
use Rattle.std.specs.Prelude.{◌≡◌, ◌≢◌, ℕ, ◌+◌, ◌*◌, ◌-◌, ◌<◌, ◌≤◌, ◌^◌, ◌||◌, [], List, Option, Some, Result, IfOk, IfSome, IsOk, OnErr, OnOk, IsPermutation, is_some, length, max, nat_lt}
use Rattle.std.specs.Borrow.{Bor}
use Rattle.std.specs.List.{All}
use Rattle.std.specs.Option.{option_map}
use Rattle.starlark_hash.specs.HashValue.{hash_number}
use Rattle.starlark_hash.specs.declared.hash_value.StarlarkHashValue.{StarlarkHashValue}
use Rattle.starlark_hash.specs.Entries.{Entry, entry_hash}
use Rattle.starlark_small.specs.Hashes.{Hashes, hash_under, noted, numbered}
use Rattle.starlark_small.specs.Index.{IsIndexed, hashes_of, index_room, unindexed}
use Rattle.starlark_table.specs.Growth.{most_for}
use Rattle.starlark_table.specs.Table.{Table, members}
use Rattle.starlark_vec2.specs.Sort.{Moves}

-- room was made for this many hashes in all, and at most for `most_for` as many; or it was refused, and nothing has changed
pub record GrowsHashes {A E : Type 0} (needed : ℕ) (old new : Hashes) (r : Result A E) : Type 0 where
  pub made : OnOk r (needed ≤ length old.list + new.room)
  pub most : OnOk r (length old.list + new.room ≤ most_for needed)
  pub list : new.list ≡ old.list
  pub unchanged : OnErr r (new ≡ old)

-- the hash index of an empty list was made, if this many entries need one, with room for them and at most for `most_for` as many; or
-- that was refused, which never happens if they need none
pub record MakesIndexFor {E : Type 0} (many : ℕ) (r : Result (Option Hashes) E) : Type 0 where
  pub empty : IfOk r (λ index. IfSome index (λ h. h.list ≡ []))
  pub made : IfOk r (λ index. is_some index ≡ nat_lt unindexed many)
  pub room : IfOk r (λ index. many ≤ index_room 0 index)
  pub most : IfOk r (λ index. IfSome index (λ h. h.room ≤ most_for many))
  pub succeeds : many ≤ unindexed → IsOk r

-- there is a hash index, to which a hash was appended that it lacked, and the list has room for the entry
pub record IsNotedIn (hash : StarlarkHashValue) (free : ℕ) (old new : Option Hashes) : Type 0 where
  pub hashes : Hashes
  pub there : old ≡ Some hashes
  pub spare : 0 < free
  pub room : 0 < hashes.room
  pub lacked : All (λ h. h ≢ hash_under hash) hashes.list
  pub noted : new ≡ Some (noted hash hashes)
  pub fits : hash_number hash < 2 ^ 32

-- each hash has the index that `to` has at its old index, and the room stays
pub record IsRenamed (to : List ℕ) (old new : Option Hashes) : Type 0 where
  pub list : (list : List ℕ) → IfSome old (λ h. Moves h.list to list) → option_map (λ h. h.list) new ≡ option_map (λ _. list) old
  pub room : option_map (λ h. h.room) new ≡ option_map (λ h. h.room) old

-- a table is shown exactly if there is a hash index, and has the index of each entry under its hash
pub record ShowsTable (index : Option Hashes) (shown : Option (Bor (Table ℕ))) : Type 0 where
  pub there : is_some shown ≡ is_some index
  pub members : IfSome shown (λ table. IfSome index (λ h. IsPermutation (numbered h.list) (members table.now)))

module _ {K V : Type 0} where
  -- a hash index, if there is one, was filled with the hash of each entry of the list, and each took the room of one
  pub record IsFilled (es : List (Entry K V)) (old new : Option Hashes) : Type 0 where
    pub hashes : new ≡ option_map (λ h. record { list = hashes_of es; room = h.room - length es }) old
    pub fits : IfSome old (λ _. All (λ e. hash_number (entry_hash e) < 2 ^ 32) es)

  -- the hash index of the list was made, if the list is longer than the threshold; or that was refused, which never happens if it is
  -- not
  pub record MakesIndexOf {E : Type 0} (es : List (Entry K V)) (r : Result (Option Hashes) E) : Type 0 where
    pub indexed : IfOk r (λ index. IsIndexed es index)
    pub long : IfOk r (λ index. is_some index ≡ nat_lt unindexed (length es))
    pub succeeds : length es ≤ unindexed → IsOk r

  -- the hash index after a reservation, done or refused: it is right for the list, and no room is lost. If there was room, nothing
  -- changes. A refusal changes nothing, and comes only if there was no room
  pub record GrowsIndex {A E : Type 0} (es : List (Entry K V)) (additional : ℕ) (old new : Option Hashes) (r : Result A E) : Type 0 where
    pub indexed : IsIndexed es new
    pub grows : index_room (length es) old ≤ index_room (length es) new
    pub enough : additional ≤ index_room (length es) old → new ≡ old
    pub refused : OnErr r (index_room (length es) old < additional)
    pub unchanged : OnErr r (new ≡ old)

  -- done: there is room for this many new entries; if the hash index grew, for at most `most_for` as many. There is a hash index if
  -- there was one or if the new length needs it. Otherwise the reservation was refused
  pub record ReservesIndex {A E : Type 0} (es : List (Entry K V)) (additional : ℕ) (old new : Option Hashes) (r : Result A E) : Type 0 where
    pub room : OnOk r (additional ≤ index_room (length es) new)
    pub most : index_room (length es) old < additional → OnOk r (length es + index_room (length es) new ≤ most_for (max (2 * unindexed) (length es + additional)))
    pub made : OnOk r (is_some new ≡ (is_some old || nat_lt unindexed (length es + additional)))
    pub grown : GrowsIndex es additional old new r
