-- The overflow filter: each member outside its home's group has its bit set.
use Rattle.starlark_hash.proofs.Common.{◌≡◌, ℕ, ◌-◌, ◌%◌, ◌^◌, ◌<◌, List, length, Option, Some, None, arith, refl, common_steps, swap, set, length-set}
use Rattle.std.proofs.lemmas.Nat.Bits.{bit_at-zero, bit_at_ones}
use Rattle.starlark_table.specs.Layout.{at, home, tag, InPlace, IsFar, MayBeFar, TellsFar}
use Rattle.starlark_table.proofs.BackwardShift.{at-set, same_hash, taken_and_written}

module _ {T : Type 0} where
  -- if no bit is set, each member is in its home's group
  pub in_place-near : (slots : List (Option (ℕ × T))) → TellsFar 0 slots → InPlace (length slots) slots
  in_place-near slots told = record { reached = λ p q h x at_p far q_in nearer. absurd (let bit = told p h x at_p far in grind (arith, bit_at-zero (tag h % 64))) }

  -- a filter with every bit set is right for all slots
  pub told_by_all : (slots : List (Option (ℕ × T))) → TellsFar (2 ^ 64 - 1) slots
  told_by_all slots p h x at_p far = bit_at_ones 64 (tag h % 64) (omega arith)

  -- the filter stays right when a member is removed
  pub told-taken : (slots : List (Option (ℕ × T))) (i far : ℕ) → i < length slots → TellsFar far slots → TellsFar far (set slots i None)
  told-taken slots i far i_in told = grind (arith, common_steps)

  -- the filter stays right when a member is inserted, with its bit set if it has overflowed
  pub told-put : (slots : List (Option (ℕ × T))) (i : ℕ) (m : ℕ × T) (far next start t : ℕ) → i < length slots → TellsFar far slots
      → start ≡ home (length slots) m.0 → t ≡ tag m.0
      → ((other : ℕ) → MayBeFar far other → MayBeFar next other) → (IsFar start i → MayBeFar next t) → TellsFar next (set slots i (Some m))
  told-put slots i m far next start t i_in told is its kept new = λ p h x at_p away.
      grind (arith, common_steps, at-set slots i p (Some m) (Some (h, x)) i_in at_p, same_hash m (h, x), told p h x, kept (tag h))

  -- a member that has overflowed and moves into an empty slot has its bit set already
  pub told-moved : (slots : List (Option (ℕ × T))) (hole next far : ℕ) (n : ℕ × T) → hole < length slots → next < length slots → at slots hole ≡ None
      → at slots next ≡ Some n → IsFar (home (length slots) n.0) next → TellsFar far slots → TellsFar far (swap slots hole next)
  told-moved slots hole next far n hole_in next_in empty there away told =
      rw (← taken_and_written slots hole next n hole_in next_in empty there)
      (told-put (set slots next None) hole n far far _ _ (rw length-set hole_in) (told-taken slots next far next_in told) refl refl (λ other may. may) (λ _. told next n.0 n.1 there away))
