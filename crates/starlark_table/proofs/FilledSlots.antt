-- The members of slots, by their tags and by the parts of the list: empty slots add none.
use Rattle.starlark_hash.proofs.Common.{◌≡◌, ℕ, suc, add-one, ◌+◌, ◌<◌, ◌≤◌, List, [], ◌∷◌, length, drop, Option, Some, None, IsSome, is_some, nat_eq, get_or, arith, refl, ◌∙◌, drop-cons, nat_tests, common_steps, set}
use Rattle.std.proofs.Common.{slice_range}
use Rattle.std.proofs.lemmas.List.Folds.{drop_split}
use Rattle.starlark_table.proofs.Lists.{still_untouched}
use Rattle.starlark_table.proofs.BackwardShift.{full_in_range}
use Rattle.starlark_table.proofs.Load.{filled-append, filled-replicate}
use mathlib.Core.Bool.{not}
use Rattle.starlark_columns.specs.Cells.{IsFilled, empties}
use Rattle.starlark_table.specs.Table.{filled}
use Rattle.starlark_table.specs.Layout.{at, slot_tag, empty_tag, IsTagged}
use Rattle.starlark_table.proofs.SlotTags.{tag-below, full-by_tag}

module _ {T : Type 0} where
  pub filled-by_some : (o : Option (ℕ × T)) → IsSome o → (m : ℕ × T) × (o ≡ Some m)
  filled-by_some None some = absurd (cc)
  filled-by_some (Some m) some = (m, refl)

  -- a slot with a tag other than the empty one has a member
  pub filled-by_tag : (tags : List ℕ) (slots : List (Option (ℕ × T))) (p : ℕ) → IsTagged tags slots → p < length slots
      → (get_or tags p 0 ≡ empty_tag → ⊥) → IsFilled slots p
  filled-by_tag tags slots p t p_in full = filled-by_some (at slots p) (full-by_tag tags slots p t p_in full)

  pub tells : (o : Option (ℕ × T)) (t : ℕ) → t ≡ slot_tag o → not (nat_eq t empty_tag) ≡ is_some o
  tells o t e = grind (arith, nat_tests, tag-below)

  pub all_empty : (xs : List (Option (ℕ × T))) → ((p : ℕ) → p < length xs → at xs p ≡ None) → xs ≡ empties (length xs)
  all_empty [] none = refl
  all_empty (o ∷ xs) none = grind (arith, none 0, all_empty xs (λ p below. none (suc p) (omega arith)))

  -- empty slots between `from` and `end` add no member
  pub filled-past_range : (slots : List (Option (ℕ × T))) (from end : ℕ) → from ≤ end → ((p : ℕ) → from ≤ p → p < end → at slots p ≡ None)
      → filled (drop from slots) ≡ filled (drop end slots)
  filled-past_range slots from end on none =
      let front : slice_range slots from end ≡ empties (length (slice_range slots from end)) = all_empty _ (λ p below. grind (arith, common_steps, none (from + p))) in
      rw (drop_split slots from end on, filled-append, front) (rw filled-replicate)

  -- empty slots at the front add no member
  pub filled-past_front : (slots : List (Option (ℕ × T))) (n : ℕ) → ((p : ℕ) → p < n → at slots p ≡ None)
      → filled slots ≡ filled (drop n slots)
  filled-past_front slots n none = filled-past_range slots 0 n (omega arith) (λ p low below. none p below)

  -- the first member from a slot on, if the slots before it are empty
  pub filled-first_behind : (slots : List (Option (ℕ × T))) (from i : ℕ) (m : ℕ × T) → from ≤ i → ((p : ℕ) → from ≤ p → p < i → at slots p ≡ None)
      → at slots i ≡ Some m → filled (drop from slots) ≡ m ∷ filled (drop (i + 1) slots)
  filled-first_behind slots from i m on none here =
      filled-past_range slots from i on none ∙ rw (drop-cons slots i None (full_in_range slots i m here), here, add-one)

  -- if the slots before one are empty and its member is taken, the slots up to it are empty
  pub empty-after_taken : (slots : List (Option (ℕ × T))) (i : ℕ) → i < length slots → ((p : ℕ) → p < i → at slots p ≡ None)
      → (p : ℕ) → p < i + 1 → at (set slots i None) p ≡ None
  empty-after_taken slots i i_in front p below = grind (arith, common_steps)

  -- taking the first member leaves the others
  pub filled-first_taken : (slots : List (Option (ℕ × T))) (i : ℕ) (m : ℕ × T) → ((p : ℕ) → p < i → at slots p ≡ None)
      → at slots i ≡ Some m → filled slots ≡ m ∷ filled (set slots i None)
  filled-first_taken slots i m none here =
      grind (arith, filled-first_behind slots 0 i m, still_untouched slots slots, filled-past_front (set slots i None) (i + 1), empty-after_taken, full_in_range)

  -- two adjoining stretches of empty slots are one
  pub empty-joined : (slots : List (Option (ℕ × T))) (from end : ℕ) → ((p : ℕ) → p < from → at slots p ≡ None)
      → ((p : ℕ) → from ≤ p → p < end → at slots p ≡ None) → (p : ℕ) → p < end → at slots p ≡ None
  empty-joined slots from end front rest p below = grind (arith, front p, rest p)
