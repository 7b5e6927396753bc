-- Slots that a mutable iterator has written: a slot is still empty, or full under its hash.
use Rattle.starlark_hash.proofs.Common.{◌≡◌, ℕ, suc, List, [], ◌∷◌, length, Option, refl, ap, arith}
use Rattle.starlark_columns.specs.Loan.{kept_cells}
use Rattle.starlark_table.proofs.Shape.{shape}

module _ {T : Type 0} where
  -- lemmas for writes that keep the hashes
  module _ (kept : ℕ × T → ℕ × T → ℕ × T) (hash : (x w : ℕ × T) → (kept x w).0 ≡ x.0) where
    pub shape-kept_cells : (xs ws : List (Option (ℕ × T))) → shape (kept_cells kept xs ws) ≡ shape xs
    shape-kept_cells [] ws = refl
    shape-kept_cells (o ∷ xs) [] = grind (arith, shape-kept_cells xs [], hash)
    shape-kept_cells (o ∷ xs) (w ∷ ws) = grind (arith, shape-kept_cells xs ws, hash)

module _ {X : Type 0} (kept : X → X → X) where
  pub length-kept_cells : (xs ws : List (Option X)) → length (kept_cells kept xs ws) ≡ length xs
  length-kept_cells [] ws = refl
  length-kept_cells (x ∷ xs) [] = ap suc (length-kept_cells xs [])
  length-kept_cells (x ∷ xs) (w ∷ ws) = ap suc (length-kept_cells xs ws)

  -- lemmas for slots that are written twice
  module _ (itself : (x : X) → kept x x ≡ x) (again : (x w : X) → kept x (kept x w) ≡ kept x w) where
    pub again-kept_cells : (xs ws : List (Option X)) → kept_cells kept xs (kept_cells kept xs ws) ≡ kept_cells kept xs ws
    again-kept_cells [] ws = refl
    again-kept_cells (x ∷ xs) [] = grind (arith, again-kept_cells xs [], itself)
    again-kept_cells (x ∷ xs) (w ∷ ws) = grind (arith, again-kept_cells xs ws, itself, again)
