-- Backward shift over the whole circle, once several members were removed. Members move back towards their homes one after
-- another, beginning at an empty slot that no path crosses.
use Rattle.starlark_hash.proofs.Common.{◌≡◌, ℕ, ◌+◌, ◌<◌, ◌≤◌, List, length, Option, Some, None, IsSome, arith, IsPermutation, ◌∙◌, ap, inl, inr, nat_tests, cases_eq, IsPermutation-refl, IsPermutation-trans}
use Rattle.starlark_table.specs.Table.{filled}
use Rattle.starlark_table.specs.Layout.{at, distance, home, InPlace, IsFar, ReachesBefore, StandsIn}
use Rattle.starlark_table.proofs.Circle.{distance-below, distance-self, distance-same, far_behind, home-below, next-step}
use Rattle.starlark_table.proofs.SlotTags.{full-by_tag, empty-by_tag}
use Rattle.starlark_table.proofs.BackwardShift.{full_in_range, path_more, same_hash, Moved, Origin, moved-origin}

-- the slots of a path that does not cross z come before its end, seen from z
on_way : (m z b p q : ℕ) → z < m → b < m → p < m → q < m → distance m b p < distance m b z → distance m b q < distance m b p
    → distance m z q < distance m z p
unfolding distance
on_way m z b p q z_in b_in p_in q_in before nearer = grind (arith, nat_tests)

pub short_of : (m start slot end : ℕ) → start < m → slot < m → end < m → distance m start slot ≤ distance m start end
    → (slot ≡ end → ⊥) → distance m start slot + 1 ≤ distance m start end
unfolding distance
short_of m start slot end start_in slot_in end_in near apart = grind (arith, nat_tests)

-- a home is a slot, and is no steps from itself
pub ruleset homes = (home-below, distance-self)

-- facts for a path that goes on as long as its slots are full
pub ruleset free_way = (distance-self, distance-below, short_of, next-step, path_more, full-by_tag, empty-by_tag)

module _ {T : Type 0} where
  -- After `step` steps from `start`, each member passed so far has a full path from its home, or is in its home's group.
  pub record Steps (m start step : ℕ) (initial slots : List (Option (ℕ × T))) : Type 0 where
    pub sized : length slots ≡ m
    pub reaches : ReachesBefore m slots start
    pub settled : (p q h : ℕ) (x : T) → at slots p ≡ Some (h, x) → IsFar (home m h) p → distance m start p < step → q < m
        → distance m (home m h) q < distance m (home m h) p → IsSome (at slots q)
    pub bag : IsPermutation (filled initial) (filled slots)

  module _ (m start : ℕ) (start_in : start < m) where
    pub steps_first : (slots : List (Option (ℕ × T))) → ReachesBefore m slots start → length slots ≡ m → Steps m start 1 slots slots
    steps_first slots reaches sized = grind (arith, IsPermutation-refl, full_in_range slots, distance-self, λ (p : ℕ). distance-same m start p start, reaches.before)

    pub settled_all : (initial slots : List (Option (ℕ × T))) (step : ℕ) → m ≤ step → Steps m start step initial slots → InPlace m slots
    settled_all initial slots step all k = grind (arith, k.sized, distance-below m start, full_in_range slots, k.settled)

    -- a step that moves nothing: if the slot has a member, its path is full
    pub steps_stays : (initial old new : List (Option (ℕ × T))) (slot step : ℕ) → Steps m start step initial old → slot < m → distance m start slot ≡ step → new ≡ old
        → ((q h : ℕ) (x : T) → at old slot ≡ Some (h, x) → IsFar (home m h) slot → q < m → distance m (home m h) q < distance m (home m h) slot → IsSome (at old q))
        → Steps m start (step + 1) initial new
    steps_stays initial old new slot step before slot_in e is here =
        rw is (grind (arith, before.sized, before.reaches, before.bag, λ (p : ℕ). distance-same m start p slot, full_in_range old, before.settled, here))

    -- lemmas for a step that moves the member of the slot back
    module _ (initial old new : List (Option (ℕ × T))) (to slot step h : ℕ) (x : T) (before : Steps m start step initial old) (slot_in : slot < m)
        (e : distance m start slot ≡ step) (here : at old slot ≡ Some (h, x)) (near : distance m (home m h) to ≤ distance m (home m h) slot)
        (path : IsFar (home m h) slot → (q : ℕ) → q < m → distance m (home m h) q < distance m (home m h) to → IsSome (at old q)) (to_in : to < m) (moved : Moved old new to slot (h, x)) where
      -- a member that is outside its home's group after the move was outside it before
      was_far : (p k : ℕ) (y : T) (o : Origin old to slot p (k, y)) → IsFar (home m k) p → IsFar (home m k) o.from
      was_far p k y o is_far =
          grind (arith, same_hash (k, y) (h, x), far_behind m (home m k) to slot, home-below m k)

      full_still : (q : ℕ) → (q ≡ slot → ⊥) → IsSome (at old q) → IsSome (at new q)
      full_still q apart full = grind (arith, moved.others q, cases_eq q to)

      pub steps_moved : IsPermutation (filled old) (filled new) → Steps m start (step + 1) initial new
      steps_moved bag = record {
        sized = moved.same_length ∙ before.sized;
        reaches = record {
          before = λ p k y at_p is_far.
              let o = moved-origin old new to slot p (h, x) (k, y) here moved at_p in
              let far = before.reaches.before o.from k y o.there (was_far p k y o is_far) in
              grind (arith, same_hash (k, y) (h, x));
        };
        settled = λ p q k y at_p is_far less q_in nearer.
            let o = moved-origin old new to slot p (h, x) (k, y) here moved at_p in
            let was = was_far p k y o is_far in
            let home_in = home-below m k (omega arith) in
            elim o.which [
              | inl same ↦
                  let not_slot : p ≡ slot → ⊥ = λ e. cc (ap (at new) e, moved.new_hole) in
                  let far = before.reaches.before p k y in
                  let sized = before.sized in
                  let on = on_way m start (home m k) p q in
                  grind (arith, full_still q, distance-same m start p slot, before.settled p q k y, full_in_range old p (k, y))
              | inr both ↦ grind (arith, full_still q, path, same_hash (k, y) (h, x))
            ];
        bag = IsPermutation-trans _ _ _ before.bag bag;
      }

  -- before anything moves, no path crosses an empty slot
  pub reaches_before : (m start : ℕ) (old new : List (Option (ℕ × T))) → length old ≡ m → start < m → at old start ≡ None → InPlace m old
      → StandsIn old new → ReachesBefore m new start
  reaches_before m start old new sized start_in empty in_place stands =
      grind (arith, stands.stood, full_in_range old, home-below m, λ (p h : ℕ). distance-same m (home m h) p start, λ (p h : ℕ) (x : T). in_place.reached p start h x)
