-- Keys that ascend in a part of a list.
use Rattle.std.specs.Prelude.{ℕ, Bool, List, MatchBool}
use Rattle.std.specs.List.Sorted.{IsSortedWithin}
use Rattle.std.specs.Ordering.{is_lt}
use Rattle.std.specs.declared.cmp.Ordering.{Ordering}

-- `answer` says whether the keys of these pairs ascend from the index low up to high; equal keys may be next to each
-- other
abbrev pub TellsAscent : {K V : Type 0} → (K → K → Ordering) → List (K × V) → ℕ → ℕ → Bool → Type 0
TellsAscent cmp pairs low high answer =
    MatchBool answer (IsSortedWithin (λ p q. is_lt (cmp p.0 q.0)) pairs low high) (IsSortedWithin (λ p q. is_lt (cmp p.0 q.0)) pairs low high → ⊥)
