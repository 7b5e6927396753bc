-- Cells of a column that are lent together. Which of them are full does not change, nor does the part of each item that
-- `kept` takes from it. A loan has a name, by which a contract says what the cells end as.
use Rattle.std.specs.Prelude.{ℕ, ◌+◌, ◌*◌, ◌^◌, List, [], ◌∷◌, length, Option, Some, None}
use Rattle.std.specs.Borrow.{Fml, RattleType, MutBor, GName, follows}
use Rattle.std.specs.Mem.{type_size}
use base.Fml.{Lft, ffalse, fsep, flt, fobs, fbor}
use types.SemTy.{SemTy, Body}
use denote.Memory.{mem}
use denote.RawPtr.{Ptr, block_ptr, null_ptr}
use Rattle.starlark_columns.specs.Ownership.{cells_owned}
use Rattle.starlark_columns.specs.contracts.column.Column.{the_row}

module _ {X : Type 0} (kept : X → X → X) where
  -- the first cell with the item of the second, except for the part that `kept` takes from its own; it stays empty or
  -- full
  abbrev pub kept_cell : Option X → Option X → Option X
  kept_cell None w = None
  kept_cell (Some x) None = Some x
  kept_cell (Some x) (Some w) = Some (kept x w)

  -- the cells cs, each full one with the item that ws has in the same cell, if any, except for the part that `kept`
  -- takes from its own
  abbrev pub kept_cells : List (Option X) → List (Option X) → List (Option X)
  kept_cells [] ws = []
  kept_cells (c ∷ cs) [] = c ∷ kept_cells cs []
  kept_cells (c ∷ cs) (w ∷ ws) = kept_cell c w ∷ kept_cells cs ws

module _ (R : RattleType) (kept : R.Denot → R.Denot → R.Denot) where
  -- an item as a type whose value at any w has the kept part of x
  abbrev pub KeptItem : R.Denot → SemTy
  KeptItem x = record { rep = R.Denot; coded = R.coded; size = 0; own_at = λ w b o. (mem R).own_at (kept x w) b o }

  -- cells as a type whose value at any ws has the kept parts of the items of cs
  abbrev pub KeptCells : List (Option R.Denot) → SemTy
  KeptCells cs = record { rep = List (Option R.Denot); coded = (the_row R).coded; size = 0; own_at = λ ws b o. cells_owned R (block_ptr b o) (kept_cells kept cs ws) }

  -- the right to write the item x, except for its kept part, under the loan's name γ
  abbrev pub lent_item : Lft → ℕ → ℕ → GName → R.Denot → Fml
  lent_item κ b o γ x = fsep (fobs γ (R.coded.code x)) (fbor κ (Body (KeptItem x) b o γ))

  -- the right to write the cells cs, except for their kept parts, under the loan's name γ
  abbrev pub lent_cells : Lft → ℕ → ℕ → GName → List (Option R.Denot) → Fml
  lent_cells κ b o γ cs = fsep (fobs γ ((the_row R).coded.code cs)) (fbor κ (Body (KeptCells cs) b o γ))

-- the right to write the cells cs, which begin at the index i of those at p, except for their kept parts, under the
-- loan's name γ
abbrev pub lent_from : Lft → (R : RattleType) → (R.Denot → R.Denot → R.Denot) → Ptr → ℕ → GName → List (Option R.Denot) → Fml
lent_from κ R kept (block_ptr b o) i γ cs = fsep (flt ((i + length cs) * type_size R) (2 ^ 63)) (lent_cells R kept κ b (i * type_size R + o) γ cs)
lent_from κ R kept null_ptr i γ cs = ffalse

-- the column ends as `kept_cells` of what the loan of this name ends as: each full cell has the item that was written
-- there, except for the part that stays
abbrev pub cells_follow : (R : RattleType) → (R.Denot → R.Denot → R.Denot) → MutBor (List (Option R.Denot)) → GName → Fml
cells_follow R kept c γ = follows (the_row R) (the_row R) c.ghost_name γ (kept_cells kept c.now)
