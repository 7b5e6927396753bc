-- Slots that an iterator has still to take, and the tags that say which of them are full.
use Rattle.starlark_hash.proofs.Common.{common_steps, ◌≡◌, ℕ, suc, ◌+◌, ◌-◌, ◌<◌, ◌≤◌, List, [], ◌∷◌, length, drop, Option, None, slice_index_or, arith, cases_lt}
use Rattle.starlark_columns.specs.Cells.{IsFilled}
use Rattle.starlark_table.specs.Table.{filled}
use Rattle.starlark_table.specs.Layout.{at, empty_tag, hash_tag_bits, IsTagged, LeftInWindow}
use Rattle.starlark_table.specs.Loan.{AreMarked, Lent}
use Rattle.starlark_table.proofs.FilledSlots.{filled-by_some, filled-past_range}
use Rattle.starlark_table.proofs.FullBits.{window_done, window_opens}
use Rattle.starlark_table.proofs.TagCount.{long_tags}
use Rattle.starlark_table.proofs.SlotTags.{full-by_tag, empty-by_tag}

module _ {T : Type 0} where
  -- tags that mark the slots mark them without the first one
  marked-rest : (tags : List ℕ) (from : ℕ) (rest : List (Option (ℕ × T))) → 0 < length rest → AreMarked tags from rest → AreMarked tags (from + 1) (drop 1 rest)
  marked-rest tags from [] some m = absurd (omega (arith, some))
  marked-rest tags from (c ∷ rest) some m = grind (arith, λ (k : ℕ). m.empty (suc k), λ (k : ℕ). m.full (suc k))

  -- what is known of the next slot, and of the slots behind it
  module _ (tags : List ℕ) (l v : Lent T) (view : l ≡ v) (marked : AreMarked tags l.from l.rest) (index : ℕ) (next : (index ≡ v.from) × (0 < length v.rest)) where
    some : 0 < length l.rest
    some = rw view next.1

    pub next-full : (slice_index_or tags index 0 ≡ empty_tag → ⊥) → IsFilled l.rest 0
    next-full n =
        let full : slice_index_or tags l.from 0 ≡ empty_tag → ⊥ = rw view (rw next.0 at n) in
        filled-by_some _ (grind (arith, some, marked.full 0))

    pub next-behind : (from : ℕ) (rest : List (Option (ℕ × T))) → from ≡ l.from + 1 → rest ≡ drop 1 l.rest → AreMarked tags from rest
    next-behind from rest e f =
        rw (e, f) (marked-rest tags l.from l.rest some marked)

  -- the bits of a group say which of its slots are full
  pub marked-window : (tags : List ℕ) (slots : List (Option (ℕ × T))) (start end bits : ℕ) → IsTagged tags slots → start < end
      → end ≤ start + 64 → end ≤ length tags → bits ≡ hash_tag_bits tags start (end - start) → LeftInWindow slots start end start bits
  marked-window tags slots start end bits t = window_opens tags slots start end bits (grind arith)

  -- the iterator has passed the slots between `from` and `start`, all of them empty
  pub record PassedOver (slots : List (Option (ℕ × T))) (from start : ℕ) : Type 0 where
    pub ahead : from ≤ start
    pub passed : (p : ℕ) → from ≤ p → p < start → at slots p ≡ None

  -- if members are left, the iterator has not reached the end
  pub more_ahead : (slots : List (Option (ℕ × T))) (from start : ℕ) → PassedOver slots from start → 0 < length (filled (drop from slots)) → start < length slots
  more_ahead slots from start k some = grind (arith, common_steps, filled-past_range slots from start k.ahead k.passed)

  -- the iterator passes a group without a bit
  pub passed-window : (slots : List (Option (ℕ × T))) (from start end bits : ℕ) → PassedOver slots from start
      → LeftInWindow slots start end start bits → bits ≡ 0 → start < end → PassedOver slots from end
  passed-window slots from start end bits k left none some = grind (arith, window_done slots start end start bits left none)

  -- the tags of a table mark its slots before the first is taken
  pub marked-all : (tags : List ℕ) (slots : List (Option (ℕ × T))) → IsTagged tags slots → AreMarked tags 0 slots
  marked-all tags slots t = grind (arith, long_tags tags slots t.sized, cases_lt 0 (length slots), empty-by_tag tags slots, full-by_tag tags slots)

-- the facts that a loan needs when it begins and when it goes on
pub ruleset marking = (marked-all, next-behind)
