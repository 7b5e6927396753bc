-- Changes of a table's slots: its members, its room, and its invariant afterwards.
use Rattle.starlark_hash.proofs.Common.{◌≡◌, ℕ, ◌+◌, ◌-◌, ◌^◌, ◌<◌, ◌≤◌, List, ◌∷◌, ◌++◌, length, Option, Some, None, arith, ◌∙◌, ap, length-append, IsPermutation, length_permutation, set, length-set}
use Rattle.std.specs.List.{refill}
use Rattle.starlark_table.specs.Table.{Table, filled, members, table_len}
use Rattle.starlark_table.specs.Layout.{at, InPlace, IsTagged, IsSound, TellsFar}
use Rattle.starlark_table.specs.Growth.{limit}
use Rattle.starlark_table.proofs.Bag.{filled-set_some}
use Rattle.starlark_table.proofs.Load.{sound-empty_slot}
use Rattle.starlark_table.proofs.OverflowFilter.{told_by_all}
use Rattle.starlark_table.proofs.TagCount.{refilled}

module _ {T : Type 0} where
  -- a table with `count` members in the given slots
  abbrev pub laid : List (Option (ℕ × T)) → ℕ → Table T
  laid slots len = record { slots = slots; room = limit (length slots) - len }

module _ {T : Type 0} (slots : List (Option (ℕ × T))) (tags : List ℕ) (count far : ℕ) (before : IsSound slots tags count far) (t : Table T) (view : laid slots count ≡ t) where
  -- members and room together are the maximum load
  whole : table_len t + t.room ≡ limit (length slots)
  whole = rw (← view) (omega (arith, before.counted, before.load))

  counted : count ≡ table_len t
  counted = before.counted ∙ ap table_len view

  pub slot_for_one : 0 < t.room → (q : ℕ) × (q < length slots) × (at slots q ≡ None)
  slot_for_one some = sound-empty_slot slots tags count far before (omega (arith, whole))

  -- a change after which the invariant holds with the new tags, and the capacity is as before
  pub record Changed (new : List (Option (ℕ × T))) (tags' : List ℕ) (count' far' : ℕ) : Type 0 where
    pub sound : (old : List ℕ) → length tags' ≡ length old → IsSound new (refill (length old) old tags') count' far'
    pub room : length (filled new) + (limit (length new) - count') ≡ table_len t + t.room

  changed : (new : List (Option (ℕ × T))) (tags' : List ℕ) (count' far' : ℕ) → length new ≡ length slots → InPlace (length new) new → IsTagged tags' new → TellsFar far' new
      → count' ≡ length (filled new) → count' ≤ table_len t + t.room → Changed new tags' count' far'
  changed new tags' count' far' sized in_place tagged told is fits = record {
    sound = λ old same. rw (refilled old tags' same) (grind (arith, whole));
    room = omega (arith, whole, sized, is, fits);
  }

  -- inserting one member is such a change
  pub inserted : (slot : ℕ) (m : ℕ × T) (new : List (Option (ℕ × T))) (tags' : List ℕ) (far' : ℕ) → TellsFar far' new → 0 < t.room → new ≡ set slots slot (Some m) → slot < length slots → at slots slot ≡ None
      → InPlace (length new) new → IsTagged tags' new → Changed new tags' (count + 1) far' × IsPermutation (m ∷ members t) (filled new)
  inserted slot m new tags' far' told room is slot_in empty in_place tagged =
      let added : IsPermutation (m ∷ members t) (filled new) = rw (← view, is) (filled-set_some slots slot m slot_in empty) in
      let more = length_permutation (m ∷ members t) (filled new) added in
      (changed new tags' (count + 1) far' (ap length is ∙ length-set slots slot (Some m)) in_place tagged told (omega (arith, counted, more)) (omega (arith, counted, room)), added)

  -- removing one member is such a change
  pub removed : (m : ℕ × T) (new : List (Option (ℕ × T))) (tags' : List ℕ) → length new ≡ length slots → InPlace (length new) new → IsTagged tags' new
      → IsPermutation (filled slots) (m ∷ filled new) → TellsFar far new → (1 ≤ count) × Changed new tags' (count - 1) far
  removed m new tags' sized in_place tagged rest told =
      let fewer = length_permutation (filled slots) (m ∷ filled new) rest in
      (omega (arith, before.counted, fewer), changed new tags' (count - 1) far sized in_place tagged told (omega (arith, before.counted, fewer)) (omega (arith, counted)))

  -- keeping some of the members is such a change
  pub some_kept : (kept : ℕ) (new : List (Option (ℕ × T))) (tags' : List ℕ) → length new ≡ length slots → InPlace (length new) new → IsTagged tags' new
      → kept ≡ length (filled new) → length (filled new) ≤ length (filled slots) → Changed new tags' kept (2 ^ 64 - 1)
  some_kept kept new tags' sized in_place tagged is fewer =
      changed new tags' kept (2 ^ 64 - 1) sized in_place tagged (told_by_all new) is (omega (arith, before.counted, counted, is, fewer))

  -- taking in the members of another table is such a change
  pub taken_in : (old : List (Option (ℕ × T))) (more : ℕ) (other : Table T) (new : List (Option (ℕ × T))) (tags' : List ℕ) (far' : ℕ) → TellsFar far' new → more ≡ length (filled old) → laid old more ≡ other
      → table_len other ≤ t.room → length new ≡ length slots → InPlace (length new) new → IsTagged tags' new → IsPermutation (filled old ++ filled slots) (filled new)
      → Changed new tags' (count + more) far' × IsPermutation (members other ++ members t) (filled new)
  taken_in old more other new tags' far' told many seen fits sized in_place tagged all =
      let both = length_permutation _ _ all ∙ length-append (filled old) (filled slots) in
      let as_many = ap table_len seen in
      (changed new tags' (count + more) far' sized in_place tagged told (omega (arith, before.counted, many, both)) (omega (arith, counted, many, as_many, fits)), rw (← seen, ← view) all)
