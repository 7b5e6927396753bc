-- The probe sequence of a hash, group by group: what a search knows at one group, and how it goes on to the next.
use Rattle.starlark_hash.proofs.Common.{nat_tests, min, ◌≡◌, ◌≢◌, ℕ, suc, ◌+◌, ◌-◌, ◌/◌, ◌^◌, ◌<◌, ◌≤◌, ◌⊎◌, List, length, Option, Some, None, IsSome, arith, get_or, ◌∙◌, ap, inr, pow-suc, count_trailing_zeros}
use Rattle.std.proofs.Math.Nat.{div-div-eq-div-mul}
use Rattle.starlark_table.specs.Layout.{at, distance, home, tag, tag_bits, empty_tag, padding, InPlace, IsFar, IsMask, IsTagged, BitsUpToEmpty}
use Rattle.starlark_table.proofs.Circle.{near_or_far, home-below, distance-self, distance-ahead, distance-same, far_on, round_on, between}
use Rattle.starlark_table.proofs.SlotTags.{tag-below, tag-member, empty-by_tag, full-by_tag}
use Rattle.starlark_table.proofs.TagBits.{none-by_bits, first-by_bits, tag_bits-later}
use Rattle.starlark_table.proofs.TagCount.{long_tags}

module _ {T : Type 0} (tags : List ℕ) (slots : List (Option (ℕ × T))) (tagged : IsTagged tags slots) where
  -- an index whose tag is not the padding is that of a slot
  pub not_padding : (q t : ℕ) → q < length tags → get_or tags q 0 ≡ t → t ≢ padding → q < length slots
  not_padding q t q_in e differ = grind arith

  room_at : (start : ℕ) → start < length slots → start + 16 ≤ length tags
  room_at start start_in = omega (arith, long_tags tags slots tagged.sized (omega arith))

  -- the first empty slot of a group is e
  pub record FirstEmpty (start e : ℕ) : Type 0 where
    pub low : start ≤ e
    pub high : e < start + 16
    pub in_range : e < length slots
    pub empty : at slots e ≡ None
    pub before : (p : ℕ) → start ≤ p → p < e → get_or tags p 0 ≢ empty_tag
    pub tag : get_or tags e 0 ≡ empty_tag

  pub first_empty : (start bits : ℕ) → start < length slots → bits ≡ tag_bits empty_tag tags start 16 → bits ≢ 0 → FirstEmpty start (start + count_trailing_zeros 64 bits)
  first_empty start bits start_in its some =
      let first = first-by_bits empty_tag tags start 16 bits its (omega arith) some in
      grind (arith, room_at start, not_padding (start + count_trailing_zeros 64 bits) empty_tag, empty-by_tag tags slots)

  -- the home of a hash, computed from the number of the hash, and the group there
  pub at_home : (hash mask start number : ℕ) → 0 < length slots → IsMask mask slots → start ≡ home (mask + 1) number → number ≡ hash
      → (0 < length slots) × (start ≡ home (length slots) hash) × (start + 16 ≤ length tags)
  at_home hash mask start number some masked is hashes =
      let it : start ≡ home (length slots) hash = is ∙ ap (home (mask + 1)) hashes ∙ ap (λ n. home n hash) (masked (omega arith)) in
      (omega arith, it, omega (arith, it, home-below (length slots) hash (omega arith), room_at (home (length slots) hash)))

  -- lemmas for a path from a over full slots, where one slot is empty
  module _ (a : ℕ) (a_in : a < length slots) (free : (q : ℕ) × (q < length slots) × (at slots q ≡ None)) where
    abbrev pub FullUpTo : ℕ → Type 0
    FullUpTo start = (q : ℕ) → q < length slots → distance (length slots) a q < distance (length slots) a start → IsSome (at slots q)

    -- over full slots the path does not come round to its beginning
    pub straight_over : (start q : ℕ) → start < length slots → q < length slots → start ≤ q → FullUpTo start
        → ((p : ℕ) → start ≤ p → p < q → IsSome (at slots p)) → distance (length slots) a q ≡ distance (length slots) a start + (q - start)
    unfolding distance
    straight_over start q start_in q_in low path full = grind (arith, nat_tests, path free.0, full free.0)

    pub full_up_to : (start e : ℕ) → start < length slots → FullUpTo start → FirstEmpty start e → FullUpTo e
    full_up_to start e start_in path first = grind (arith, full-by_tag tags slots, first.before, straight_over start e, between (length slots) a start e)

    -- the search has passed a group without an empty slot, up to the group's end, or up to the last slot and round to the
    -- first
    pub record Passed (start next : ℕ) : Type 0 where
      pub full : (q : ℕ) → start ≤ q → q < start + 16 → get_or tags q 0 ≢ empty_tag
      pub in_range : next < length slots
      pub steps : distance (length slots) a next ≡ distance (length slots) a start + (min (start + 16) (length slots) - start)
      pub path : FullUpTo next

    pub passed : (mask start next bits : ℕ) → mask + 1 ≡ length slots → start < length slots → FullUpTo start → bits ≡ tag_bits empty_tag tags start 16 → bits ≡ 0
        → (start + 16 ≤ mask → next ≡ start + 16) → (mask < start + 16 → next ≡ 0) → Passed start next
    passed mask start next bits masked start_in path its none on round =
        let end : ℕ = min (start + 16) (length slots) in
        let full = none-by_bits empty_tag tags start 16 bits its none in
        grind (arith, path free.0, full-by_tag, round_on (length slots) a start end free.0 next, between (length slots) a start end)

-- how many steps lead from the home of a hash to a slot
abbrev pub way : {T : Type 0} → ℕ → List (Option (ℕ × T)) → ℕ → ℕ
way hash slots q = distance (length slots) (home (length slots) hash) q

module _ {T : Type 0} (hash : ℕ) (tags : List ℕ) (slots : List (Option (ℕ × T))) where
  -- a search at `slot` in the group from `start` on has still to look at q
  pub record Ahead (start slot q : ℕ) : Type 0 where
    pub in_range : q < length slots
    pub far : way hash slots start ≤ way hash slots q
    pub left : (q < start) ⊎ (slot ≤ q)

  -- the bits are those of the slots from `slot` up to the end of the group
  pub record AtWindow (start slot bits : ℕ) : Type 0 where
    pub start_in : start < length slots
    pub path : (q : ℕ) → q < length slots → way hash slots q < way hash slots start → IsSome (at slots q)
    pub end : ℕ
    pub from : start ≤ slot
    pub to : slot ≤ end
    pub short : end ≤ start + 16
    pub its : bits ≡ tag_bits (tag hash) tags slot (end - slot)
    pub stop : end < start + 16 → get_or tags end 0 ≡ empty_tag
    pub straight : (q : ℕ) → start ≤ q → q ≤ end → q < length slots → way hash slots q ≡ way hash slots start + (q - start)
    -- this is the first group, and whole; or every slot that is still to come is far from the home
    pub first : ((start ≡ home (length slots) hash) × (end ≡ start + 16))
        ⊎ ((q : ℕ) → q < length slots → way hash slots start ≤ way hash slots q → IsFar (home (length slots) hash) q)

  module _ (tagged : IsTagged tags slots) (some : 0 < length slots) where
    pub window_begins : (bits : ℕ) → bits ≡ tag_bits (tag hash) tags (home (length slots) hash) 16
        → AtWindow (home (length slots) hash) (home (length slots) hash) bits
    window_begins bits is =
        let a = home (length slots) hash in
        grind (arith, a + 16, home-below (length slots) hash some, distance-self (length slots) a, distance-ahead (length slots) a)

    -- the slot of the lowest bit, and the search past it
    pub record Matched (start slot bits here : ℕ) : Type 0 where
      pub in_range : here < length slots
      pub full : IsSome (at slots here)
      pub none : (q : ℕ) (x : T) → slot ≤ q → q < here → at slots q ≡ Some (hash, x) → ⊥
      pub ahead : (start ≤ here) × (slot ≤ here) × (here < start + 16)
      pub on : AtWindow start (here + 1) (bits / 2 ^ count_trailing_zeros 64 bits / 2)

    pub window_matches : (start slot bits : ℕ) → AtWindow start slot bits → bits ≢ 0 → Matched start slot bits (slot + count_trailing_zeros 64 bits)
    window_matches start slot bits w some_bit =
        let k : ℕ = count_trailing_zeros 64 bits in
        let n : ℕ = w.end - slot in
        let first = first-by_bits (tag hash) tags slot n bits w.its (omega (arith, w.short, w.from)) some_bit in
        let within = first.within in
        let later : bits / 2 ^ k / 2 ≡ tag_bits (tag hash) tags (slot + k + 1) (w.end - (slot + k + 1)) = ap (λ b. b / 2 ^ k / 2) w.its
        ∙ rw (div-div-eq-div-mul, ← pow-suc 2 k) (tag_bits-later (tag hash) tags slot (suc k) (w.end - (slot + k + 1)) (slot + k + 1) n (omega arith) (omega arith)) in
        grind (arith, tag-below, long_tags tags slots tagged.sized some, not_padding tags slots tagged (slot + k) (tag hash), full-by_tag tags slots, first.there, first.before, tag-member tags slots, w.end, later)

    -- lemmas for a group with no bit left
    module _ (start slot bits : ℕ) (w : AtWindow start slot bits) (none : bits ≡ 0) where
      none_left : (q : ℕ) (x : T) → slot ≤ q → q < w.end → at slots q ≡ Some (hash, x) → ⊥
      none_left q x low high here =
          none-by_bits (tag hash) tags slot (w.end - slot) bits w.its none q low (omega (arith, w.to)) (tag-member tags slots q hash x tagged here)

      -- if the group has an empty slot, no slot that is left holds the hash
      pub window_ends : (e : ℕ) → FirstEmpty tags slots tagged start e → InPlace (length slots) slots → (q : ℕ) (x : T) → Ahead start slot q → at slots q ≡ Some (hash, x) → ⊥
      window_ends e first in_place q x ahead here =
          let e_to : e ≤ w.end = grind (arith, first.before w.end, w.stop) in
          let e_way = w.straight e first.low e_to first.in_range in
          let far = near_or_far (home (length slots) hash) q in
          let home_in = home-below (length slots) hash some in
          grind (arith, w.first, in_place.reached q e hash x here, distance-self, distance-ahead, none_left q x, w.straight q, between, distance-same)

      -- the search is at the next group
      pub record GoesOn (next bits' : ℕ) : Type 0 where
        pub on : AtWindow next next bits'
        pub farther : way hash slots start < way hash slots next
        pub back : (q : ℕ) → Ahead next next q → Ahead start slot q
        pub ahead : (q : ℕ) (x : T) → Ahead start slot q → at slots q ≡ Some (hash, x) → Ahead next next q

      -- if the group has no empty slot, the search goes on to the next group
      pub window_goes_on : (free : (q : ℕ) × (q < length slots) × (at slots q ≡ None)) (mask next bits' empties : ℕ) → mask + 1 ≡ length slots
          → empties ≡ tag_bits empty_tag tags start 16 → empties ≡ 0 → (start + 16 ≤ mask → next ≡ start + 16) → (mask < start + 16 → next ≡ 0)
          → BitsUpToEmpty (tag hash) tags next bits' → GoesOn next bits'
      window_goes_on free mask next bits' empties masked its full on round b =
          let a = home (length slots) hash in
          let home_in = home-below (length slots) hash some in
          let p = passed tags slots tagged a home_in free mask start next empties masked w.start_in w.path its full on round in
          let whole : w.end ≡ start + 16 = grind (arith, p.full w.end, w.stop) in
          record {
            on = record {
              start_in = p.in_range;
              path = p.path;
              end = b.end;
              from = omega arith;
              to = b.from;
              short = b.short;
              its = b.its;
              stop = b.stop;
              straight = λ q low high q_in. grind (arith, full-by_tag tags slots, b.full, straight_over tags slots tagged a home_in free next q p.in_range q_in low p.path);
              first = inr (λ q q_in late. grind (arith, w.first, p.steps, distance-self, far_on));
            };
            farther = omega (arith, p.steps);
            back = λ q ahead. grind (arith, p.steps, w.straight q);
            ahead = λ q x ahead here. grind (arith, p.steps, none_left q x, between (length slots) a start (min (start + 16) (length slots)) q);
          }
