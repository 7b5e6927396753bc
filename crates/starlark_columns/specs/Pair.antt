-- The block of two rows: how both lie in it, and the right to deallocate it.
use Rattle.std.specs.Prelude.{ℕ, ◌+◌, ◌*◌, ◌%◌, ◌^◌, []}
use mathlib.Core.Bool.{cond}
use lib.Dec.{eqb}
use base.Fml.{Fml, ftrue, fsep, fwand, feq}
use mir.Raw.{raw}
use mir.Syntax.{Ty, ty_array, ty_struct, tcons, tnil}
use prog.Memory.{align, size, up, pad, capped}
use denote.Memory.{lone}
use denote.RattleType.{RattleType}
use denote.RawPtr.{Ptr, block_ptr, block_of, count_of, room_for, ◌+ₚ◌}

-- the alignment of a type
abbrev pub type_align : RattleType → ℕ
type_align R = align (lone R.mir)

module _ (τ σ : Ty) where
  -- an array of n values of τ, and behind it one of n values of σ
  abbrev pub two_arrays : ℕ → Ty
  two_arrays n = ty_struct [] (tcons (ty_array τ n) (tcons (ty_array σ n) tnil))

  -- the memory of both arrays, at p and q, is the memory of the block again
  abbrev pub rooms_rejoin : Ptr → Ptr → ℕ → Fml
  rooms_rejoin p q n = fwand (fsep (room_for (raw (ty_array τ n)) p) (room_for (raw (ty_array σ n)) q)) (room_for (raw (two_arrays n)) p)

  -- what `deallocate` needs to deallocate the block of the n values at p and the n values at q; nothing if they take no
  -- bytes
  abbrev pub arrays_claimed : (Ty → Ptr → Fml) → Ptr → Ptr → ℕ → Fml
  arrays_claimed token p q n = cond (eqb (n * (size τ + size σ)) 0) ftrue (fsep (token (raw (two_arrays n)) p) (rooms_rejoin p q n))

  -- the offset of the second array, computed modulo 2^64: the size of the first, rounded up to a multiple of the
  -- alignment of the second
  abbrev pub arrays_skipped : ℕ → ℕ
  arrays_skipped n = let bytes = (n * capped (size τ)) % 2 ^ 64 in (bytes + pad (capped (align σ)) bytes) % 2 ^ 64

  -- p is an address in a block, and q is at the offset of the second array behind it
  abbrev pub arrays_apart : Ptr → Ptr → ℕ → Fml
  arrays_apart p q n = feq (Ptr × Ptr) (p, q) (block_ptr (block_of p) (count_of p), p +ₚ arrays_skipped n)

module _ (R S : RattleType) where
  -- n values of the type R, and behind them n of the type S
  abbrev pub pair_ty : ℕ → Ty
  pair_ty = two_arrays (lone R.mir) (lone S.mir)

  -- the offset of the second row in the block
  abbrev pub second_offset : ℕ → ℕ
  second_offset n = up (type_align S) (n * size (lone R.mir))

  -- the offset of the second row, computed modulo 2^64 from the count
  abbrev pub skipped : ℕ → ℕ
  skipped = arrays_skipped (lone R.mir) (lone S.mir)

  -- the address of the second row, if the first is at p
  abbrev pub behind : ℕ → Ptr → Ptr
  behind n p = p +ₚ skipped n

  -- p is an address in a block, and q is the address of the second row behind it
  abbrev pub apart : Ptr → Ptr → ℕ → Fml
  apart = arrays_apart (lone R.mir) (lone S.mir)

  -- what `deallocate` needs to deallocate the block of both rows, and that q is the address of the second row
  abbrev pub pair_claimed : (Ty → Ptr → Fml) → Ptr → Ptr → ℕ → Fml
  pair_claimed token p q n = fsep (apart p q n) (arrays_claimed (lone R.mir) (lone S.mir) token p q n)
