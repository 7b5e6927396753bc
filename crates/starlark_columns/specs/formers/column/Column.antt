-- `Column` as a type constructor in its cells, so that a recursive type may use it.
use Rattle.std.specs.Prelude.{ℕ, List, [], Option}
use Rattle.std.specs.Coded.{coded_option}
use mathlib.Core.Path.{refl, sym, ◌∙◌}
use mathlib.Core.HLevel.{×_prop, ×₃_prop}
use mathlib.Core.Former.{Former, this, const, pair, list, via}
use native.Mathlib.Nat.{ℕ_set}
use lib.ListN.{length-map}
use base.Stored.{Coded-set, code_map}
use denote.RattleType.{RattleType}
use denote.RawPtr.{coded_ptr}
use denote.HoleLaws.{Alike}
use denote.HolePlaces.{Recodes, struct_places, laid}
use denote.Hole.Fix.{over}
use denote.Param.Weighed.{Weighed, w_list}
use denote.Model.Placed.{view_places}
use Rattle.std.specs.declared.alloc.Global.{Global}
use Rattle.std.specs.contracts.alloc.Global as heap
use Rattle.std.specs.contracts.impls.GlobalAllocator.TheImpl.{ghosts}
use Rattle.starlark_columns.specs.declared.block.Address.{Address}
use Rattle.starlark_columns.specs.declared.block.Claim.{Claim}
use Rattle.starlark_columns.specs.contracts.block.Address as address
use Rattle.starlark_columns.specs.declared.column.Column.TheInside.{Inside}
use Rattle.starlark_columns.specs.declared.column.Column.TheView.{view, invariant}
use Rattle.starlark_columns.specs.contracts.column.Column as column
use Rattle.starlark_columns.specs.formers.block.Claim as claim_is
use Rattle.starlark_columns.specs.formers.row.Row as row_is

abbrev pub the_former : Former {0} → Former {0}
the_former g = list (row_is.cell g)

abbrev pub the_weighed : {g : Former {0}} → Weighed g → Weighed (the_former g)
the_weighed w = w_list (row_is.weighed_cell w)

pub the_empty : List (Option ⊥)
the_empty = []

-- ---- the fields without items, at another type
abbrev pub address_at : (X Y : Type 0) → Address X → Address Y
address_at X Y b = record { at = b.at }

abbrev pub claim_at : (X Y : Type 0) → Claim X Global → Claim Y Global
claim_at X Y d = record { mark = d.mark; at = d.at; count = d.count; alloc = d.alloc }

abbrev pub fields : Former {0}
fields = via (pair (row_is.the_former this) (const (Address ⊥ × ℕ × Claim ⊥ Global))) Inside (λ X a. (a.row, (address_at X ⊥ a.address, a.count, claim_at X ⊥ a.claim)))
    (λ X v. record { address = address_at ⊥ X v.1.0; count = v.1.1; row = v.0; claim = claim_at ⊥ X v.1.2 }) (λ X a. refl) (λ X v. refl)

once : (X : Type 0) (u : Inside X) → IsProp (invariant X u)
once X u = ×₃_prop (Coded-set coded_ptr _ _) (ℕ_set _ _) (×_prop (Coded-set coded_ptr _ _) (ℕ_set _ _))

module _ (R R' : RattleType) (h : R.Denot → R'.Denot) where
  pub the_places : Alike R R' h → Alike (column.the_row R) (column.the_row R') ((the_former this).map R.Denot R'.Denot h)
  the_places a =
      let at = struct_places (address.the_type R) (address.the_type R') ((λ p. p), tt) (address_at R.Denot R'.Denot) (λ d. refl) refl ((refl, (λ n. refl, λ n. refl)), tt) in
      let right = claim_is.the_places heap.the_row ghosts R R' h a in
      view_places fields (the_former this) view (λ X Y k u. refl) (λ X u. refl) R.Denot R'.Denot h (column.the_row R).coded (column.the_row R').coded
      (invariant R.Denot) (invariant R'.Denot) (once R.Denot) (once R'.Denot)
      (λ u s. (s.0, length-map u.row.cells (row_is.mapped_cell h) ∙ s.1, s.2))
      (λ u s. (s.0, sym (length-map u.row.cells (row_is.mapped_cell h)) ∙ s.1, s.2))
      (over (column.TheInside.the_row R)) (over (column.TheInside.the_row R'))
      (struct_places (column.TheInside.the_type R) (column.TheInside.the_type R') (address_at R.Denot R'.Denot, (λ n. n, ((row_is.the_former this).map R.Denot R'.Denot h, (claim_at R.Denot R'.Denot, tt)))) _ (λ d. refl) refl
      (laid _ _ _ at, ((refl, (λ n. refl, λ n. refl)), (laid _ _ _ (row_is.the_places R R' h a), (laid _ _ _ right, tt)))))

  pub the_codes_placed : Recodes R R' h → Recodes (column.the_row R) (column.the_row R') ((the_former this).map R.Denot R'.Denot h)
  the_codes_placed e d = sym (code_map (coded_option R.coded).code (coded_option R'.coded).code (row_is.mapped_cell h) (row_is.cell_recoded R R' h e) d)
