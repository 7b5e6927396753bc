-- The tags of slots, and of slots after a change.
use Rattle.starlark_hash.proofs.Common.{◌≡◌, ℕ, ◌<◌, List, length, Option, Some, None, IsSome, arith, get_or, ◌∙◌, ap, common_steps, swap, set, swapped_from_swap, length-swap}
use Rattle.starlark_table.specs.Layout.{at, tag, slot_tag, empty_tag, padding, HasTags, IsTagged}
use Rattle.starlark_table.proofs.BackwardShift.{full_in_range}
use Rattle.starlark_table.proofs.TagCount.{long_tags}

-- the tag of a hash is below the padding, and below the empty one
pub tag-below : (hash : ℕ) → tag hash < padding
unfolding tag
tag-below hash = omega arith

module _ {T : Type 0} where
  -- each slot has a tag
  pub tag-in_range : (tags : List ℕ) (slots : List (Option (ℕ × T))) (i : ℕ) → HasTags tags slots → i < length slots
      → i < length tags
  tag-in_range tags slots i sized i_in =
      omega (arith, long_tags tags slots sized (omega arith))

  -- a member has the tag of its hash
  pub tag-member : (tags : List ℕ) (slots : List (Option (ℕ × T))) (p h : ℕ) (x : T) → IsTagged tags slots → at slots p ≡ Some (h, x)
      → get_or tags p 0 ≡ tag h
  tag-member tags slots p h x t here = t.tagged p (full_in_range slots p (h, x) here) ∙ ap slot_tag here

  -- a slot with the empty tag is empty, and a slot with another tag is full
  pub empty-by_tag : (tags : List ℕ) (slots : List (Option (ℕ × T))) (p : ℕ) → IsTagged tags slots → p < length slots
      → get_or tags p 0 ≡ empty_tag → at slots p ≡ None
  empty-by_tag tags slots p t p_in e = grind (arith, tag-below, t.tagged p)

  pub full-by_tag : (tags : List ℕ) (slots : List (Option (ℕ × T))) (p : ℕ) → IsTagged tags slots → p < length slots
      → (get_or tags p 0 ≡ empty_tag → ⊥) → IsSome (at slots p)
  full-by_tag tags slots p t p_in full = grind (arith, t.tagged p)

  -- tags stay right if a slot and its tag change together
  pub tagged-changed : (tags : List ℕ) (slots : List (Option (ℕ × T))) (i t : ℕ) (o : Option (ℕ × T)) → i < length slots → IsTagged tags slots
      → t ≡ slot_tag o → IsTagged (set tags i t) (set slots i o)
  tagged-changed tags slots i t o i_in old its = grind (arith, common_steps, tag-in_range tags slots i)

  -- tags stay right if a member is replaced under its hash
  pub tagged-rewritten : (tags : List ℕ) (slots : List (Option (ℕ × T))) (i : ℕ) (m n : ℕ × T) → i < length slots → IsTagged tags slots
      → at slots i ≡ Some m → n.0 ≡ m.0 → IsTagged tags (set slots i (Some n))
  tagged-rewritten tags slots i m n i_in t here same =
      grind (arith, common_steps, t.tagged i)

  -- tags stay right if two slots and their tags are swapped alike
  pub tagged-swapped : (tags : List ℕ) (slots : List (Option (ℕ × T))) (a b : ℕ) → a < length slots → b < length slots → IsTagged tags slots
      → IsTagged (swap tags a b) (swap slots a b)
  tagged-swapped tags slots a b a_in b_in old =
      grind (arith, length-swap, tag-in_range tags slots, swapped_from_swap slots (swap slots a b) a b None, swapped_from_swap tags (swap tags a b) a b 0)
