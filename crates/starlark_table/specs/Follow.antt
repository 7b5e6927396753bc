-- Observers that are notified of each member that a table moves.
use Rattle.std.specs.Prelude.{◌≡◌, ℕ, ◌<◌, List, length, Option, Some, None, slice_index_or, slice_set}

module _ {T : Type 0} where
  -- a member may move: it is in the slot `from`, and the slot `to` is empty
  pub record CanMove (slots : List (Option (ℕ × T))) (from to h : ℕ) (x : T) : Type 0 where
    pub there : slice_index_or slots from None ≡ Some (h, x)
    pub empty : slice_index_or slots to None ≡ None
    pub within : to < length slots

  -- the slots after a member has moved
  abbrev pub after_move : List (Option (ℕ × T)) → ℕ → ℕ → ℕ → T → List (Option (ℕ × T))
  after_move slots from to h x = slice_set (slice_set slots from None) to (Some (h, x))
