-- The state of a search for a hash, group after group: what each turn of its loop knows, and what it passes to the next
-- turn.
use Rattle.starlark_hash.proofs.Common.{append_assoc, common_steps, ◌++◌, ◌≡◌, ◌≢◌, ℕ, ◌+◌, ◌-◌, ◌*◌, ◌/◌, ◌^◌, ◌<◌, ◌≤◌, List, [], ◌∷◌, length, Option, Some, None, Bool, true, false, nat_eq, eq-eqb, arith, refl, sym, ◌∙◌, Bor, CalledAt, TakesAt, Mut, IsPermutation, count_trailing_zeros, eqb-true, false≢true, set, IsPermutation-refl, IsPermutation-trans, IsPermutation-append_right}
use Rattle.std.proofs.lemmas.Fn.{FoldsTo-push}
use Rattle.starlark_hash.specs.Search.{Searches, Refuses, CanSearch}
use Rattle.starlark_columns.specs.Cells.{IsFilled}
use Rattle.starlark_table.specs.Table.{holders_in}
use Rattle.starlark_table.specs.Layout.{at, home, tag, tag_bits, empty_tag, InPlace, IsTagged, IsMask, BitsUpToEmpty, MayBeFar, TellsFar}
use Rattle.starlark_table.proofs.Circle.{home-below, near_or_far, distance-self, distance-below}
use Rattle.starlark_table.proofs.BackwardShift.{full_in_range, same_hash}
use Rattle.starlark_table.proofs.FilledSlots.{filled-by_some}
use Rattle.starlark_table.proofs.Holders.{holders-none, holders-taken}
use Rattle.starlark_table.proofs.EmptySearch.{asks-after, searches_none}
use Rattle.starlark_table.proofs.TagBits.{none-by_bits}
use Rattle.starlark_table.proofs.SlotTags.{tag-member}
use Rattle.starlark_table.proofs.ProbeSequence.{Ahead, AtWindow, Matched, at_home, first_empty, way, window_begins, window_matches, window_ends, window_goes_on}

-- if the test answers true, the hash is the sought one
pub same-by_test : {b : Bool} (h hash : ℕ) → b ≡ nat_eq h hash → b ≡ true → h ≡ hash
same-by_test h hash is said = eqb-true h hash (sym is ∙ said)

-- if the test answers false, the hash is not the sought one
pub other-by_test : {b : Bool} (h hash : ℕ) → b ≡ nat_eq h hash → b ≡ false → h ≡ hash → ⊥
other-by_test h hash is said same = false≢true (sym said ∙ is ∙ eq-eqb h hash same)

-- how much is left to search: the steps round the circle, and the slots of the group
abbrev pub left_to_look : {T : Type 0} → ℕ → List (Option (ℕ × T)) → ℕ → ℕ → ℕ
left_to_look hash slots start slot = (length slots - way hash slots start) * 32 + (start + 16 - slot)

module _ {F T : Type 0} (g : Mut F (Bor T × Unit {0}) Bool) (hash : ℕ) (tags : List ℕ) (slots : List (Option (ℕ × T))) (first : F) where
  abbrev a : ℕ
  a = home (length slots) hash

  -- The search is at a slot of the group from `start` on. The closure, `first` at the beginning and now f, has refused some
  -- items of the hash. The items left are those of `rest`, which has the slots still ahead.
  pub record Looking (start slot same : ℕ) (f : F) : Type 0 where
    pub window : AtWindow hash tags slots start slot same
    pub rest : List (Option (ℕ × T))
    pub untouched : (q : ℕ) → Ahead hash tags slots start slot q → at rest q ≡ at slots q
    pub gone : (q : ℕ) (x : T) → at rest q ≡ Some (hash, x) → Ahead hash tags slots start slot q
    pub before : List (ℕ × T)
    pub split : IsPermutation (holders_in hash slots) (before ++ holders_in hash rest)
    pub refused : Refuses g first before f

  module _ (tagged : IsTagged tags slots) where
    -- lemmas for the group at the home, which `number` determines
    module _ (mask start number : ℕ) (some : 0 < length slots) (masked : IsMask mask slots)
        (is : start ≡ home (mask + 1) number) (hashes : number ≡ hash) where
      homed : (0 < length slots) × (start ≡ a) × (start + 16 ≤ length tags)
      homed = at_home tags slots tagged hash mask start number some masked is hashes

      pub looking_begins : (sought same : ℕ) → sought ≡ tag number → same ≡ tag_bits sought tags start 16
          → Looking start start same first
      looking_begins sought same seeks bits = rw homed.1 (record {
        window = window_begins hash tags slots tagged homed.0 same (rw (seeks, hashes, homed.1) at bits);
        rest = slots;
        untouched = λ q ahead. refl;
        gone = λ q x there. grind (arith, distance-self (length slots) a, full_in_range slots q (hash, x) there);
        before = [];
        split = IsPermutation-refl _;
        refused = refl;
      })

      -- if the home's group has no such tag and no member with it has overflowed, no member has the hash
      pub looking_near : (sought same : ℕ) → sought ≡ tag number → same ≡ tag_bits sought tags start 16 → same ≡ 0
          → (far : ℕ) → TellsFar far slots → (MayBeFar far sought → ⊥) → Searches g (holders_in hash slots) first None first
      looking_near sought same seeks bits none far told near =
          searches_none g _ first (holders-none hash 0 slots (λ p x is.
          let absent = none-by_bits sought tags start 16 same bits none p in
          grind (arith, near_or_far a p, absent, tag-member tags slots p hash x tagged is, told p hash x is, homed)))

    module _ (start slot same : ℕ) (f : F) (l : Looking start slot same f) where
      some : 0 < length slots
      some = omega (arith, l.window.start_in)

      -- lemmas for a group with no bit left
      module _ (none : same ≡ 0) (empties : ℕ) (its : empties ≡ tag_bits empty_tag tags start 16) where
        -- the search ends at a group with an empty slot
        pub looking_ends : InPlace (length slots) slots → empties ≢ 0 → Searches g (holders_in hash slots) first None f
        looking_ends in_place empty =
            let ends = window_ends hash tags slots tagged some start slot same l.window none _ (first_empty tags slots tagged start empties l.window.start_in its empty) in_place in
            let nobody = holders-none hash 0 l.rest (λ q x is. let ahead = l.gone q x is in ends q x ahead (sym (l.untouched q ahead) ∙ is)) in
            record { order = l.before ++ []; rearranged = rw nobody at l.split; asks = asks-after g l.before [] first f None f l.refused (refl, refl) }

        -- the search goes on to the next group
        pub looking_goes_on : (mask sought next bits : ℕ) → (q : ℕ) × (q < length slots) × (at slots q ≡ None) → IsMask mask slots → sought ≡ tag hash → empties ≡ 0
            → (start + 16 ≤ mask → next ≡ start + 16) → (mask < start + 16 → next ≡ 0) → BitsUpToEmpty sought tags next bits
            → Looking next next bits f × (left_to_look hash slots next next < left_to_look hash slots start slot)
        looking_goes_on mask sought next bits free masked seeks full on round b =
            let goes = window_goes_on hash tags slots tagged some start slot same l.window none free mask next bits empties (masked some) its full on round (rw seeks at b) in (
              record {
                window = goes.on;
                rest = l.rest;
                untouched = λ q ahead. l.untouched q (goes.back q ahead);
                gone = λ q x is. let ahead = l.gone q x is in goes.ahead q x ahead (sym (l.untouched q ahead) ∙ is);
                before = l.before;
                split = l.split;
                refused = l.refused;
              },
              omega (arith, goes.farther, distance-below (length slots) a next (home-below (length slots) hash some) goes.on.start_in),
            )

      -- lemmas for the slot of the lowest bit
      module _ (bit : same ≢ 0) where
        abbrev steps : ℕ
        steps = count_trailing_zeros 64 same

        abbrev here : ℕ
        here = slot + steps

        found : Matched hash tags slots tagged some start slot same here
        found = window_matches hash tags slots tagged some start slot same l.window bit

        ahead : Ahead hash tags slots start slot here
        ahead = let w = l.window in grind (arith, found, w.straight here)

        pub looking_within : here < length slots
        looking_within = found.in_range

        pub looking_full : IsFilled slots here
        looking_full = filled-by_some (at slots here) found.full

        pub looking_nearer : left_to_look hash slots start (here + 1) < left_to_look hash slots start slot
        looking_nearer = omega (arith, found.ahead)

        module _ (h : ℕ) (item : T) (is : at slots here ≡ Some (h, item)) where
          -- the item of that slot is one of those left
          taken : h ≡ hash → IsPermutation (holders_in hash slots) (l.before ++ (here, item) ∷ holders_in hash (set l.rest here None))
          taken own =
              let there : at l.rest here ≡ Some (hash, item) = l.untouched here ahead ∙ rw own at is in
              IsPermutation-trans _ _ _ l.split (IsPermutation-append_right l.before _ _ (holders-taken hash 0 here here item l.rest (omega arith) there))

          pub looking_asks : h ≡ hash → CanSearch g (holders_in hash slots) first → TakesAt g f item
          looking_asks own can = can.at l.before (here, item) _ f (taken own) l.refused

          pub looking_accepts : (f' : F) → h ≡ hash → CalledAt g f item true f' → Searches g (holders_in hash slots) first (Some here) f'
          looking_accepts f' own called = record {
            order = l.before ++ (here, item) ∷ holders_in hash (set l.rest here None);
            rearranged = taken own;
            asks = asks-after g l.before _ first f (Some here) f' l.refused (true, f', called, (refl, refl));
          }

          pub looking_refuses : (f' : F) → h ≡ hash → CalledAt g f item false f' → Looking start (here + 1) (same / 2 ^ steps / 2) f'
          looking_refuses f' own called = record {
            window = found.on;
            rest = set l.rest here None;
            untouched = λ q ahead. grind (arith, common_steps, l.untouched q, found.ahead);
            gone = λ q x is. grind (arith, common_steps, l.gone q x, l.untouched q, found.none q x);
            before = l.before ++ (here, item) ∷ [];
            split = rw append_assoc (taken own);
            refused = FoldsTo-push (λ s p t. CalledAt g s p.1 false t) first l.before f (here, item) f' l.refused called;
          }

          pub looking_skips : (f' : F) → (h ≡ hash → ⊥) → f' ≡ f → Looking start (here + 1) (same / 2 ^ steps / 2) f'
          looking_skips f' other same_f =
              rw same_f (grind (arith, l.rest, l.before, found.on, l.untouched, l.gone, found.none, found.ahead, same_hash (h, item)))
