-- What a row of cells owns and lends, of items of the type R: at each cell the item, or the memory for one. It also
-- says what the right to a block owns. No public clause cites this module.
use Rattle.std.specs.Prelude.{ℕ, ◌*◌, ◌^◌, List, [], ◌∷◌, length, Option, Some, None}
use Rattle.std.specs.Mem.{type_size}
use mathlib.Core.Bool.{cond}
use lib.Dec.{eqb}
use base.Fraction.{full_share}
use base.Fml.{Fml, Lft, ftrue, ffalse, fsep, flt}
use mir.Raw.{raw}
use mir.Syntax.{Ty, ty_array}
use denote.Memory.{lone}
use denote.RattleType.{RattleType}
use denote.RawPtr.{Ptr, block_ptr, null_ptr, lies_at, room_for, in_block, ◌+ₚ◌}
use denote.Sharing.{nothing, said, beside}
use denote.Struct.Lending.{lent_at}

module _ (R : RattleType) where
  -- the item at p, or the memory for one
  abbrev pub cell_owned : Ptr → Option R.Denot → Fml
  cell_owned p None = room_for (raw (lone R.mir)) p
  cell_owned p (Some x) = lies_at R full_share p x

  -- the cells from p on, one after the other
  abbrev pub cells_owned : Ptr → List (Option R.Denot) → Fml
  cells_owned p [] = ftrue
  cells_owned p (c ∷ cs) = fsep (cell_owned p c) (cells_owned (p +ₚ type_size R) cs)

  -- all cells, which take fewer than 2 ^ 63 bytes
  abbrev pub row_owned : Ptr → List (Option R.Denot) → Fml
  row_owned p cs = fsep (flt (length cs * type_size R) (2 ^ 63)) (in_block p (cells_owned p cs))

  -- the item at p, lent; nothing for an empty cell
  abbrev pub cell_lent : Ptr → Option R.Denot → Lft → Fml
  cell_lent p None = nothing
  cell_lent p (Some x) = lent_at R p x

  -- the cells from p on, lent
  abbrev pub cells_lent : Ptr → List (Option R.Denot) → Lft → Fml
  cells_lent p [] = nothing
  cells_lent p (c ∷ cs) = beside (cell_lent p c) (cells_lent (p +ₚ type_size R) cs)

  -- the cells from p on, lent, where p is not null
  abbrev pub within_lent : Ptr → List (Option R.Denot) → Lft → Fml
  within_lent null_ptr cs = said ffalse
  within_lent (block_ptr b o) cs = cells_lent (block_ptr b o) cs

  -- all cells, lent, which take fewer than 2 ^ 63 bytes
  abbrev pub row_lent : Ptr → List (Option R.Denot) → Lft → Fml
  row_lent p cs = beside (said (flt (length cs * type_size R) (2 ^ 63))) (within_lent p cs)

  -- what `deallocate` needs to deallocate the block of n cells at p; nothing if they take no bytes
  abbrev pub claim_owned : (Ty → Ptr → Fml) → Ptr → ℕ → Fml
  claim_owned token p n = cond (eqb (n * type_size R) 0) ftrue (token (raw (ty_array (lone R.mir) n)) p)
