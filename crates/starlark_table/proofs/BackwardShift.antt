-- Backward shift: an emptied slot is closed by moving members back, each into the slot that the one before it vacated.
use Rattle.starlark_hash.proofs.Common.{◌≡◌, ◌≢◌, ℕ, ◌+◌, ◌-◌, ◌<◌, ◌≤◌, ◌⊎◌, List, length, Option, Some, None, IsSome, arith, refl, ◌∙◌, ap, inl, inr, if◌then◌else◌, ◌==◌, is_some, nat_tests, common_steps, cases_eq, IsPermutation, swap, set, swapped_from_swap, length-swap, swap_is, IsPermutation-trans}
use Rattle.std.proofs.lemmas.List.{set_comm}
use Rattle.starlark_table.proofs.Bag.{filled-set_none, filled-set_some}
use Rattle.starlark_table.specs.Table.{filled}
use Rattle.starlark_table.specs.Layout.{at, distance, home, Crosses, InPlace, HasGap}
use Rattle.starlark_table.proofs.Circle.{distance-below, distance-self, distance-same, home-below, next-step}

module _ {T : Type 0} where
  pub full_not_empty : (o : Option (ℕ × T)) → IsSome o → o ≡ None → ⊥
  full_not_empty o full e = cc (full, ap is_some e)

  pub same_hash : (p q : ℕ × T) → Some p ≡ Some q → p.0 ≡ q.0
  same_hash p q e = cc

  pub full_in_range : (slots : List (Option (ℕ × T))) (p : ℕ) (m : ℕ × T) → at slots p ≡ Some m → p < length slots
  full_in_range slots p m e = grind (arith, common_steps)

  -- between the vacated slot and `next`, no member crosses the vacated slot; from `next` on there is an empty slot
  pub record Passed (m : ℕ) (slots : List (Option (ℕ × T))) (hole next : ℕ) : Type 0 where
    pub next_in : next < m
    pub behind : 0 < distance m hole next
    pub none : (p : ℕ) → distance m hole p < distance m hole next → Crosses m slots hole p → ⊥
    pub stop : ℕ
    pub stop_in : stop < m
    pub stop_empty : at slots stop ≡ None
    pub stop_after : distance m hole next ≤ distance m hole stop

  module _ (m hole : ℕ) (slots : List (Option (ℕ × T))) (sized : length slots ≡ m) (hole_in : hole < m) (empty : at slots hole ≡ None) where
    pub passed-begins : (on q : ℕ) → q < m → q ≢ hole → at slots q ≡ None → on ≡ (if hole + 1 == m then 0 else hole + 1) → Passed m slots hole on
    unfolding distance
    passed-begins on q q_in other q_empty is = grind (arith, nat_tests, full_in_range slots)

    -- the search passes a member that does not cross the vacated slot
    pub passed-next : (next on : ℕ) → Passed m slots hole next → IsSome (at slots next) → (Crosses m slots hole next → ⊥)
        → on ≡ (if next + 1 == m then 0 else next + 1) → (distance m hole on ≡ distance m hole next + 1) × Passed m slots hole on
    passed-next next on k some stays is =
        let past : distance m hole next < distance m hole k.stop = grind (arith, full_not_empty, distance-same m hole next k.stop) in
        let step = next-step m hole next on hole_in k.next_in (grind (arith, distance-below m hole k.stop)) is in
        grind (arith, k.none, k.stop, distance-same m hole, full_in_range slots)

    -- if the next slot is empty, every member is in place
    pub passed-all : (next : ℕ) → Passed m slots hole next → at slots next ≡ None → HasGap m slots hole → InPlace m slots
    unfolding distance
    passed-all next k done gap = record {
      reached = λ p q h x here far q_in nearer.
          let crosses = λ (before : distance m hole p < distance m hole next) (over : distance m (home m h) hole < distance m (home m h) p).
          k.none p before (record { hash = h; item = x; there = here; far = far; over = over }) in
          grind (arith, nat_tests, home-below m h, full_in_range slots p (h, x), gap.reached p q h x here far, gap.reached p next h x here far);
    }

  -- the slots after the vacated slot and the next one were swapped
  pub record Moved (old new : List (Option (ℕ × T))) (hole next : ℕ) (n : ℕ × T) : Type 0 where
    pub same_length : length new ≡ length old
    pub filled_hole : at new hole ≡ Some n
    pub new_hole : at new next ≡ None
    pub others : (p : ℕ) → (p ≡ hole → ⊥) → (p ≡ next → ⊥) → at new p ≡ at old p

  -- where a member was before the move
  pub record Origin (old : List (Option (ℕ × T))) (hole next p : ℕ) (n : ℕ × T) : Type 0 where
    pub from : ℕ
    pub there : at old from ≡ Some n
    pub which : (from ≡ p) ⊎ ((from ≡ next) × (p ≡ hole))

  pub moved-origin : (old new : List (Option (ℕ × T))) (hole next p : ℕ) (moved_one n : ℕ × T)
      → at old next ≡ Some moved_one → Moved old new hole next moved_one → at new p ≡ Some n → Origin old hole next p n
  moved-origin old new hole next p moved_one n here moved at_p = elim (cases_eq p hole) [
    | inl same ↦ record { from = next; there = grind arith; which = inr (refl, same) }
    | inr other ↦ record { from = p; there = grind arith; which = inl refl }
  ]

  -- the slot vacated first is `start`; later ones lie further on, up to an empty slot at most
  pub record Closing (m start : ℕ) (slots : List (Option (ℕ × T))) (hole : ℕ) : Type 0 where
    pub sized : length slots ≡ m
    pub hole_in : hole < m
    pub empty : at slots hole ≡ None
    pub gap : HasGap m slots hole
    pub stop : ℕ
    pub stop_in : stop < m
    pub stop_empty : at slots stop ≡ None
    pub stop_after : distance m start hole < distance m start stop

  pub closing-begins : (slots : List (Option (ℕ × T))) (start q : ℕ) → start < length slots → at slots start ≡ None → HasGap (length slots) slots start
      → q < length slots → q ≢ start → at slots q ≡ None → Closing (length slots) start slots start
  closing-begins slots start q start_in empty gap q_in other q_empty = grind (arith, distance-self, distance-same (length slots) start q start)

  module _ (m start : ℕ) (old : List (Option (ℕ × T))) (hole slot : ℕ) (start_in : start < m) (k : Closing m start old hole) (c : Crosses m old hole slot) where
    pub closing-slot_in : slot < m
    closing-slot_in = rw (← k.sized) (full_in_range old slot (c.hash, c.item) c.there)

    -- a member that crosses the vacated slot is between it and the stop
    closing-on : (distance m start hole < distance m start slot) × (distance m start slot < distance m start k.stop)
    unfolding distance
    closing-on = grind (arith, nat_tests, home-below m, closing-slot_in, k.gap.reached slot k.stop c.hash c.item)

    pub closing-smaller : m - distance m start slot < m - distance m start hole
    closing-smaller = omega (arith, closing-on, distance-below m start k.stop start_in k.stop_in)

    -- after the member moves into the vacated slot, its own slot is the vacated one
    pub closing-moved : (new : List (Option (ℕ × T))) → Moved old new hole slot (c.hash, c.item) → Closing m start new slot
    closing-moved new moved =
        let empty : at new k.stop ≡ None = grind (arith, moved.others k.stop, c.there, k.stop_after) in
        grind (arith, k.stop, closing-on, closing-slot_in, k.gap.reached, moved-origin old new hole slot)

  -- taking a member and writing it to an empty slot swaps the two slots
  pub taken_and_written : (old : List (Option (ℕ × T))) (hole next : ℕ) (n : ℕ × T) → hole < length old → next < length old
      → at old hole ≡ None → at old next ≡ Some n → set (set old next None) hole (Some n) ≡ swap old hole next
  taken_and_written old hole next n hole_in next_in empty here =
      set_comm old next hole None (Some n) (λ same. cc (ap (at old) same))
      ∙ rw (here, empty) at (swap_is old hole next None hole_in next_in)

  -- the slots after a swap of the vacated slot and a full one
  pub swapped_slots : (old new : List (Option (ℕ × T))) (hole next m : ℕ) (n : ℕ × T) → length old ≡ m → hole < m → next < m
      → at old hole ≡ None → at old next ≡ Some n → new ≡ swap old hole next
      → Moved old new hole next n × IsPermutation (filled old) (filled new)
  swapped_slots old new hole next m n sized hole_in next_in empty here e =
      let second = filled-set_some (set old next None) hole n (grind (arith, common_steps)) (grind (arith, common_steps)) in (
        grind (arith, length-swap old hole next, swapped_from_swap old new hole next None),
        rw (e, ← taken_and_written old hole next n (rw sized hole_in) (rw sized next_in) empty here)
            (IsPermutation-trans _ _ _ (filled-set_none old next n here) second),
      )

  pub at-set : (slots : List (Option (ℕ × T))) (i p : ℕ) (o n : Option (ℕ × T)) → i < length slots → at (set slots i o) p ≡ n
      → ((p ≡ i) × (o ≡ n)) ⊎ ((p ≡ i → ⊥) × (at slots p ≡ n))
  at-set slots i p o n i_in e = grind (arith, common_steps)

  -- removing a member leaves a gap at its slot
  pub gap_left : (m : ℕ) (slots : List (Option (ℕ × T))) (i : ℕ) → length slots ≡ m → i < m
      → InPlace m slots → HasGap m (set slots i None) i
  gap_left m slots i sized i_in old = grind (arith, common_steps)

  pub path_more : (m start slot : ℕ) (slots : List (Option (ℕ × T))) → start < m → slot < m
      → ((q : ℕ) → q < m → distance m start q < distance m start slot → IsSome (at slots q))
      → IsSome (at slots slot) → (next : ℕ) → distance m start next ≡ distance m start slot + 1
      → (q : ℕ) → q < m → distance m start q < distance m start next → IsSome (at slots q)
  path_more m start slot slots start_in slot_in path some next is q q_in nearer = grind (arith, distance-same m start q slot)
