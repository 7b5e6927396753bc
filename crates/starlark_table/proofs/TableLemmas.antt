-- Relations between the definitions on tables, for the crates above.
use Rattle.starlark_hash.proofs.Common.{All, All-append, All-contains, All-weaker, ◌≡◌, ℕ, ◌+◌, ◌-◌, nat_tests, common_steps, ◌<◌, ◌≤◌, nat_eq, List, [], ◌∷◌, map, Option, Some, None, refl, ap, arith, IsPermutation, slice_index_or, slice_set, Contains, enumerate_from, IsPermutation-trans, IsPermutation-cons, IsPermutation-middle, length_permutation}
use Rattle.std.proofs.lemmas.List.Elements.{All-nil}
use Rattle.std.specs.List.{filter}
use Rattle.starlark_table.specs.Table.{Table, filled, holders, members, member_at, items_under, table_capacity, table_len, with_item, GrowsAsNeeded}
use Rattle.starlark_table.specs.Growth.{most_for}
use Rattle.std.proofs.lemmas.List.{set-set}
use Rattle.starlark_table.proofs.Bag.{filled-set_none, filled-set_some, in_filled}
use Rattle.starlark_table.proofs.Holders.{holders-cons}

module _ {T : Type 0} where
  -- the member at a slot is a member of the table
  pub members-member_at : (t : Table T) (slot : ℕ) (m : ℕ × T) → member_at t slot ≡ Some m → Contains (members t) m
  members-member_at t slot m e = in_filled t.slots slot m e

  under_in : (hash n : ℕ) (slots : List (Option (ℕ × T)))
      → map (λ s. s.1) (holders hash (enumerate_from n slots)) ≡ map (λ m. m.1) (filter (λ m. nat_eq m.0 hash) (filled slots))
  under_in hash n [] = refl
  under_in hash n (None ∷ slots) = under_in hash (n + 1) slots
  under_in hash n (Some (h, x) ∷ slots) = grind (arith, under_in hash (n + 1) slots)

  -- the items of a hash, found by slots and found among the members
  pub items-items_under : (hash : ℕ) (t : Table T) → map (λ s. s.1) (items_under hash t) ≡ map (λ m. m.1) (filter (λ m. nat_eq m.0 hash) (members t))
  items-items_under hash t = under_in hash 0 t.slots

  -- the slot, counted from n on, has the item under the hash
  abbrev Stands : ℕ → ℕ → List (Option (ℕ × T)) → ℕ × T → Type 0
  Stands hash n slots s = (n ≤ s.0) × (slice_index_or slots (s.0 - n) None ≡ Some (hash, s.1))

  stands_behind : (hash n : ℕ) (o : Option (ℕ × T)) (slots : List (Option (ℕ × T))) (s : ℕ × T) → Stands hash (n + 1) slots s → Stands hash n (o ∷ slots) s
  stands_behind hash n o slots s there = grind (arith, common_steps)

  stand : (hash n : ℕ) (slots : List (Option (ℕ × T))) → All (Stands hash n slots) (holders hash (enumerate_from n slots))
  stand hash n [] = All-nil (Stands hash n [])
  stand hash n (o ∷ slots) =
      let here : All (Stands hash n (o ∷ slots)) (holders hash ((n, o) ∷ [])) = λ k d below. grind (arith, nat_tests) in
      let later = All-weaker (Stands hash (n + 1) slots) (Stands hash n (o ∷ slots)) (stands_behind hash n o slots) _ (stand hash (n + 1) slots) in
      rw holders-cons (All-append (Stands hash n (o ∷ slots)) _ _ here later)

  -- a slot listed under a hash has its item under that hash
  pub member_at-items_under : (hash : ℕ) (t : Table T) (s : ℕ × T) → Contains (items_under hash t) s → member_at t s.0 ≡ Some (hash, s.1)
  member_at-items_under hash t s there = let held = All-contains (Stands hash 0 t.slots) _ s (stand hash 0 t.slots) there in grind arith

-- ---- how room grows
module _ {T : Type 0} where
  -- a table that does not change has not grown
  pub grows-not : (old new : Table T) → new ≡ old → GrowsAsNeeded old new
  grows-not old new same = grind (arith, ap table_capacity same, ap table_len same)

  -- growth in two steps is growth, if no member leaves in the second
  pub grows-on : (old mid new : Table T) → table_len mid ≤ table_len new → GrowsAsNeeded old mid → GrowsAsNeeded mid new → GrowsAsNeeded old new
  grows-on old mid new more first later = grind arith

  -- growth depends only on the number of members and on the room
  pub grows-alike : (old new also : Table T) → table_len also ≡ table_len new → also.room ≡ new.room → GrowsAsNeeded old new → GrowsAsNeeded old also
  grows-alike old new also long wide grows = grind arith

  -- making room for one and then inserting a member is growth
  pub grows-by_one : (old mid new : Table T) (m : ℕ × T) → IsPermutation (members old) (members mid) → 1 ≤ mid.room → (1 ≤ old.room → mid ≡ old)
      → (old.room < 1 → table_capacity mid ≤ most_for (table_len old + 1)) → IsPermutation (m ∷ members mid) (members new) → table_capacity new ≡ table_capacity mid
      → GrowsAsNeeded old new
  grows-by_one old mid new m bag some there most added as_much =
      let as_many = length_permutation (members old) (members mid) bag in
      let longer = length_permutation (m ∷ members mid) (members new) added in grind (arith, ap (table_capacity {T = T}))

-- ---- what writing the item of one slot leaves
module _ {T : Type 0} where
  -- The bag with the new item added to the old members is the bag with the old item added to the new members.
  pub members-with_item : (t : Table T) (slot h : ℕ) (y x : T) → member_at t slot ≡ Some (h, y) → IsPermutation ((h, x) ∷ members t) ((h, y) ∷ members (with_item t slot x))
  members-with_item t slot h y x here =
      let out = filled-set_none t.slots slot (h, y) here in
      let back = rw set-set at (filled-set_some (slice_set t.slots slot None) slot (h, x) (grind (arith, common_steps)) (grind (arith, common_steps))) in
      rw here (IsPermutation-trans _ _ _ (IsPermutation-cons (h, x) _ _ out) (IsPermutation-trans _ _ _ (IsPermutation-middle ((h, x) ∷ []) (h, y) _) (IsPermutation-cons (h, y) _ _ back)))
