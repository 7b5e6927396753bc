-- What a cache knows once an answer is kept.
use Rattle.starlark_hash.proofs.Common.{◌≡◌, ◌∙◌, ℕ, true, false, Some, refl, sym, if◌then◌else◌, IsEquivalence}
use Rattle.std.specs.Cmp.{nat_eq_equiv, on_equiv}
use Rattle.starlark_sets.specs.CompareLaws.{same_order_equiv}
use Rattle.starlark_sets.specs.Set.{Set}
use Rattle.starlark_hash.specs.Unit.{unit_equiv}
use Rattle.starlark_unordered.specs.Lookup.{found, Updates}
use Rattle.starlark_unordered.specs.Pairs.{pairs_of}
use Rattle.starlark_uses.specs.Cache.{Answers, Caches, cached, set_eq}

set_equiv : IsEquivalence set_eq
set_equiv = on_equiv (λ (s : Set ℕ). s.entries) (same_order_equiv nat_eq_equiv unit_equiv)

module _ {V : Type 0} where
  -- an equal set finds what the set finds
  pub caches : (old new : Answers V) (set : Set ℕ) (answer : V) → Updates set_eq old new set (Some answer) → Caches old new set answer
  unfolding Caches
  caches old new set answer updates other =
      elim (set_eq set other) as (λ b. set_eq set other ≡ b → cached new other ≡ (if b then Some answer else cached old other)) [
        | true ↦ λ same. (λ i. found (λ k. sym (set_equiv.congr set other k same) i) (pairs_of new)) ∙ updates.0
        | false ↦ λ apart. updates.1 other apart
      ] refl
