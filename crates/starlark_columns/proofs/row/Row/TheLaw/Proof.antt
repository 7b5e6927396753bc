-- A `&` to a `Row` lends the items of its cells. Assumes `Logic`.
use Rattle.starlark_columns.proofs.LogicNames.{[], ◌++◌, Incl-trans, meet_⊑_left, Laws, copy_shared, RattleType, RawPtr, field_copy, of_Lends, ◌*◌, ◌^◌, List, ◌∷◌, length, Option, Some, None, type_size, Ura, Logic}
use base.Fml.{Fml, Lft, Incl, ftrue, ffalse, flt}
use denote.RattleType.{RowLaws}
use denote.RawPtr.{Ptr, block_ptr, null_ptr, ◌+ₚ◌}
use denote.Shares.{Shares-less}
use denote.Sharing.{ShrLaws, said, nothing}
use denote.SharingLaws.{nothing_shr_laws, said_shr_laws, beside_shr_laws}
use denote.Struct.Lending.{lent_at, lent_at_shr_laws, Lends, Lends-both, Lends-false, Lends-lies, Lends-nothing, Lends-said}
use Rattle.starlark_columns.specs.Ownership.{cell_owned, cells_owned, row_owned, cells_lent, row_lent}
use Rattle.core.specs.contracts.marker.PhantomData as mark
use Rattle.starlark_columns.proofs.row.Row.TheLaw.Statement.{statement}
use Rattle.starlark_columns.specs.contracts.row.Row as row

module _ (R : RattleType) where
  -- all cells take fewer than 2 ^ 63 bytes
  abbrev bounded : List (Option R.Denot) → Fml
  bounded cs = flt (length cs * type_size R) (2 ^ 63)

  module _ (L : RowLaws R) where
    of_cells : (p : Ptr) (cs : List (Option R.Denot)) → ShrLaws (cells_lent R p cs)
    of_cells p [] = nothing_shr_laws
    of_cells p (None ∷ cs) = let q = p +ₚ type_size R in beside_shr_laws nothing (cells_lent R q cs) nothing_shr_laws (of_cells q cs)
    of_cells p (Some x ∷ cs) = let q = p +ₚ type_size R in beside_shr_laws (lent_at R p x) (cells_lent R q cs) (lent_at_shr_laws R L p x) (of_cells q cs)

    of_row : (p : Ptr) (cs : List (Option R.Denot)) → ShrLaws (row_lent R p cs)
    of_row null_ptr cs = beside_shr_laws (said (bounded cs)) (said ffalse) (said_shr_laws (bounded cs) tt) (said_shr_laws ffalse tt)
    of_row (block_ptr b o) cs = let p = block_ptr b o in beside_shr_laws (said (bounded cs)) (cells_lent R p cs) (said_shr_laws (bounded cs) tt) (of_cells p cs)

module _ {M : Type 1} {𝓤 : Ura M} (𝓛 : Logic 𝓤) (R : RattleType) (L : Laws R) (l : Lft) (shorter : Incl l R.lives) where
  lends_cells : (p : Ptr) (cs : List (Option R.Denot)) → Lends 𝓛 (cells_owned R p cs) (cells_lent R p cs) l
  lends_cells p [] = Lends-nothing 𝓛 ftrue l
  lends_cells p (None ∷ cs) = let q = p +ₚ type_size R in Lends-both 𝓛 (cell_owned R p None) (cells_owned R q cs) nothing (cells_lent R q cs) l (Lends-nothing 𝓛 (cell_owned R p None) l) (lends_cells q cs)
  lends_cells p (Some x ∷ cs) = let q = p +ₚ type_size R in let first = Lends-lies 𝓛 R l p x (Shares-less 𝓛 R R.lives l shorter (L.shares 𝓛) x) in
      Lends-both 𝓛 (cell_owned R p (Some x)) (cells_owned R q cs) (lent_at R p x) (cells_lent R q cs) l first (lends_cells q cs)

  lends_row : (p : Ptr) (cs : List (Option R.Denot)) → Lends 𝓛 (row_owned R p cs) (row_lent R p cs) l
  lends_row null_ptr cs = Lends-both 𝓛 (bounded R cs) ffalse (said (bounded R cs)) (said ffalse) l (Lends-said 𝓛 (bounded R cs) tt l) (Lends-false 𝓛 (said ffalse) l)
  lends_row (block_ptr b o) cs = let p = block_ptr b o in Lends-both 𝓛 (bounded R cs) (cells_owned R p cs) (said (bounded R cs)) (cells_lent R p cs) l (Lends-said 𝓛 (bounded R cs) tt l) (lends_cells p cs)

pub shares : (R : RattleType) (L : Laws R) → statement R L
shares R L =
    let l = (row.the_row R).lives in let within = Incl-trans (meet_⊑_left (R.lives ++ []) _) (meet_⊑_left R.lives []) in
    of_Lends (row.struct R) (row.the_codes R.Denot R.coded (mark.the_row RawPtr).coded) (row.the_heap R) (row.the_lent R) (λ h p. of_row R L.shr_laws h.at h.cells)
    (copy_shared (mark.the_field RawPtr) (field_copy (mark.the_type RawPtr) tt), tt) (λ M 𝓤 𝓛 h p. lends_row 𝓛 R L l within h.at h.cells)
