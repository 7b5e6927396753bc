-- The capacity after single insertions.
use Rattle.starlark_hash.proofs.Common.{inl, inr, ◌≡◌, ℕ, zero, suc, ◌+◌, ◌-◌, ◌*◌, ◌^◌, ◌≤◌, max, min, List, [], ◌∷◌, ◌++◌, length, drop, Option, Some, None, refl, sym, ap, ◌∙◌, arith, Bool, nat_lt, if◌then◌else◌, option_map_or, nat_tests, length-drop, length_push}
use Rattle.starlark_hash.specs.declared.hashed.Hashed.{Hashed}
use Rattle.starlark_hash.specs.Entries.{match_of, set_value_at}
use Rattle.starlark_hash.specs.HashValue.{hash_of, key_of}
use Rattle.starlark_hash.proofs.EntryLemmas.{length-set_value_at}
use Rattle.starlark_small.proofs.CallerLookup.{is_some-found}
use Rattle.starlark_small.specs.Memory.{StaysOrGrows, stepped_capacity}
use Rattle.starlark_small.specs.Insert.{LeavesMemory}
use Rattle.starlark_small.specs.Map.{Map}
use Rattle.starlark_vec2.specs.PairList.{PairList, pair_list}
use Rattle.starlark_vec2.specs.Growth.{push, push_all}

-- the capacity of a list of this length and capacity after a reservation for n entries
abbrev made : ℕ → ℕ → ℕ → ℕ
made n len capacity = if nat_lt (capacity - len) n then max (len + n) (max 4 (min (2 * capacity) (2 ^ 64 - 1))) else capacity

-- the capacity of such a list after n single insertions
steps : ℕ → ℕ → ℕ → ℕ
steps len capacity zero = capacity
steps len capacity (suc n) = made 1 (len + n) (steps len capacity n)

steps_on : (len capacity n : ℕ) → steps (len + 1) (made 1 len capacity) n ≡ steps len capacity (suc n)
unfolding steps
steps_on len capacity zero = ap (λ l. made 1 l capacity) (omega arith)
steps_on len capacity (suc n) = grind (arith, steps_on len capacity n)

pushed_steps : {A B : Type 0} (v : PairList A B) (ps : List (A × B)) → (push_all v ps).capacity ≡ steps (length v.pairs) v.capacity (length ps)
unfolding steps
pushed_steps v [] = refl
pushed_steps v (p ∷ ps) = grind (arith, pushed_steps (push v p) ps, steps_on (length v.pairs) v.capacity (length ps), length_push v.pairs p)

-- no capacity is lost, and it is at most twice the length
steps_bounds : (len capacity n : ℕ) → (capacity ≤ steps len capacity n) × (steps len capacity n ≤ max capacity (max 4 (2 * (len + n))))
unfolding steps
steps_bounds len capacity zero = (omega arith, omega arith)
steps_bounds len capacity (suc n) = grind (arith, nat_tests, steps_bounds len capacity n)

module _ {K V : Type 0} where
  stepped_steps : (old new : Map K V) → stepped_capacity old new ≡ steps (length old.entries) old.capacity (length new.entries - length old.entries)
  stepped_steps old new =
      pushed_steps (pair_list old.entries old.capacity) (drop (length old.entries) new.entries) ∙ ap (steps (length old.entries) old.capacity) (length-drop (length old.entries) new.entries)

  -- the capacity after single insertions, beside the old one
  pub stepped_bounds : (old new : Map K V) → length old.entries ≤ length new.entries → (old.capacity ≤ stepped_capacity old new) × (stepped_capacity old new ≤ max old.capacity (max 4 (2 * length new.entries)))
  stepped_bounds old new longer =
      grind (arith, stepped_steps old new, steps_bounds (length old.entries) old.capacity (length new.entries - length old.entries))

  -- the map was empty
  pub stepped_from : (old new : Map K V) (n : ℕ) → old.entries ≡ [] → old.capacity ≡ n → stepped_capacity old new ≡ (push_all (pair_list [] n) new.entries).capacity
  stepped_from old new n none is = λ j. (push_all (pair_list (none j) (is j)) (drop (length (none j)) new.entries)).capacity

  pub stepped_none : (m : Map K V) → m.capacity ≡ stepped_capacity m m
  unfolding steps
  stepped_none m = grind (arith, stepped_steps m m)

  -- one more insertion, done or refused
  module _ (first mid last : Map K V) (longer : length first.entries ≤ length mid.entries) (before : mid.capacity ≡ stepped_capacity first mid) where
    -- it was done
    pub stepped_inserted : (eq : K → K → Bool) (key : Hashed K) (value : V) (o : Option ℕ) → match_of eq mid.entries key ≡ o → last.entries ≡ option_map_or (λ i. set_value_at mid.entries i value) o (mid.entries ++ (key, value) ∷ [])
        → LeavesMemory eq mid last key → last.capacity ≡ stepped_capacity first last
    unfolding steps
    stepped_inserted eq key value None lacks put leaves =
        let n = length mid.entries - length first.entries in
        let by_one : length last.entries ≡ length mid.entries + 1 = omega (arith, ap length put, length_push mid.entries (key, value)) in
        let more : length last.entries - length first.entries ≡ suc n = omega (arith, by_one, longer) in
        grind (arith, stepped_steps first last, stepped_steps first mid, more, longer, leaves.grown (omega (arith, by_one)))
    stepped_inserted eq key value (Some i) is put leaves =
        let stays = ap (λ m. m.capacity) (leaves.replaced (grind (arith, is_some-found (eq (key_of key)) (hash_of key) mid.entries, is))) in
        grind (arith, stepped_steps first mid, stepped_steps first last, length-set_value_at mid.entries i value)

    -- it was refused
    pub stepped_refused : last.entries ≡ mid.entries → StaysOrGrows 1 mid last → StaysOrGrows 1 (record last { capacity = stepped_capacity first last }) last
    stepped_refused same grows =
        let is : mid.capacity ≡ stepped_capacity first last = before ∙ (λ j. (push_all (pair_list first.entries first.capacity) (drop (length first.entries) (sym same j))).capacity) in
        elim grows [ inl stays ↦ inl (stays ∙ is) | inr grown ↦ inr (grown ∙ (λ j. made 1 (length (sym same j)) (is j))) ]
