-- `Row` as a type constructor in its cells, so that a recursive type may use it.
use Rattle.std.specs.Prelude.{◌≡◌, ◌+◌, ◌*◌, ◌^◌, List, [], ◌∷◌, length, Option, Some, None}
use Rattle.std.specs.Mem.{type_size}
use Rattle.std.specs.Coded.{coded_option, option_cases}
use mathlib.Core.Path.{refl, sym, ap, ◌∙◌}
use mathlib.Core.Logic.{◌⊎◌, inl, inr}
use mathlib.Core.Former.{Former, this, const, pair, or, list, via}
use lib.ListN.{length-map}
use base.Fraction.{full_share}
use base.Fml.{ftrue, fsep, flt, froom}
use base.Stored.{code_map, gcons, gnil, gnum}
use mir.Raw.{raw}
use prog.Memory.{size}
use denote.RattleType.{RattleType}
use denote.RawPtr.{Ptr, block_ptr, null_ptr, coded_ptr, in_block, ◌+ₚ◌}
use denote.Memory.{lone, part_of, raw_all}
use denote.Sharing.{said, nothing, beside}
use denote.Struct.Struct.{Struct}
use denote.Struct.Owning.{shape, to}
use denote.HoleLaws.{Alike}
use denote.HolePlaces.{Recodes}
use denote.Param.Weighed.{Weighed, w_const, w_pair, w_or, w_via, w_list}
use Rattle.std.specs.declared.marker.PhantomData.{PhantomData}
use Rattle.starlark_columns.specs.declared.row.Row.{Row}
use Rattle.starlark_columns.specs.contracts.row.Row as row
use Rattle.starlark_columns.specs.Ownership.{cell_owned, cells_owned, cell_lent, cells_lent, within_lent}

-- ---- a cell, which is empty or holds an item
module _ {X : Type 0} where
  abbrev pub cell_cases : Option X → Unit {0} ⊎ X
  cell_cases None = inl tt
  cell_cases (Some x) = inr x

  abbrev pub of_cases : Unit {0} ⊎ X → Option X
  of_cases (inl u) = None
  of_cases (inr x) = Some x

  pub cell_cases-of_cases : (c : Unit {0} ⊎ X) → cell_cases (of_cases c) ≡ c
  cell_cases-of_cases (inl u) = refl
  cell_cases-of_cases (inr x) = refl

abbrev pub cell : Former {0} → Former {0}
cell g = via (or (const (Unit {0})) g) (λ X. Option (g.Of X)) (λ X. cell_cases) (λ X. of_cases) (λ X. option_cases) (λ X. cell_cases-of_cases)

abbrev pub weighed_cell : {g : Former {0}} → Weighed g → Weighed (cell g)
weighed_cell {g} w = w_via (w_or (w_const (Unit {0})) w) (λ X. Option (g.Of X)) (λ X. cell_cases) (λ X. of_cases) (λ X. option_cases) (λ X. cell_cases-of_cases)

-- ---- the cells
abbrev pub the_former : Former {0} → Former {0}
the_former g = via (pair (const (PhantomData Ptr × Ptr)) (list (cell g))) (λ X. Row (g.Of X)) (λ X d. ((d.mark, d.at), d.cells)) (λ X v. record { mark = v.0.0; at = v.0.1; cells = v.1 }) (λ X d. refl) (λ X v. refl)

abbrev pub the_weighed : {g : Former {0}} → Weighed g → Weighed (the_former g)
the_weighed {g} w =
    w_via (w_pair (w_const (PhantomData Ptr × Ptr)) (w_list (weighed_cell w))) (λ X. Row (g.Of X)) (λ X d. ((d.mark, d.at), d.cells)) (λ X v. record { mark = v.0.0; at = v.0.1; cells = v.1 }) (λ X d. refl) (λ X v. refl)

pub the_empty : Row ⊥
the_empty = record { mark = record {}; at = null_ptr; cells = [] }

abbrev pub mapped_cell : {X Y : Type 0} → (X → Y) → Option X → Option Y
mapped_cell {X} {Y} h = (cell this).map X Y h

abbrev pub mapped : {X Y : Type 0} → (X → Y) → List (Option X) → List (Option Y)
mapped {X} {Y} h = (list (cell this)).map X Y h

module _ (R R' : RattleType) (h : R.Denot → R'.Denot) where
  module _ (a : Alike R R' h) where
    cell_placed : (p : Ptr) (c : Option R.Denot) → cell_owned R' p (mapped_cell h c) ≡ cell_owned R p c
    unfolding part_of
    cell_placed null_ptr None = refl
    cell_placed null_ptr (Some x) = refl
    cell_placed (block_ptr b o) None = λ i. froom (raw (lone (a.mir_same i))) b o
    cell_placed (block_ptr b o) (Some x) = λ i. part_of (raw_all (a.mir_same i)) (λ (_ : Unit {0}). a.own_same x i) full_share tt b o

    cells_placed : (p : Ptr) (cs : List (Option R.Denot)) → cells_owned R' p (mapped h cs) ≡ cells_owned R p cs
    cells_placed p [] = refl
    cells_placed p (c ∷ cs) = (λ i. fsep (cell_placed p c i) (cells_placed (p +ₚ type_size R') cs i)) ∙ (λ i. fsep (cell_owned R p c) (cells_owned R (p +ₚ size (lone (a.mir_same i))) cs))

    bound_placed : (cs : List (Option R.Denot)) → flt (length (mapped h cs) * type_size R') (2 ^ 63) ≡ flt (length cs * type_size R) (2 ^ 63)
    bound_placed cs = λ i. flt (length-map cs (mapped_cell h) i * size (lone (a.mir_same i))) (2 ^ 63)

    within_placed : (p : Ptr) (cs : List (Option R.Denot)) → within_lent R' p (mapped h cs) ≡ within_lent R p cs
    within_placed null_ptr cs = refl
    within_placed (block_ptr b o) [] = refl
    within_placed (block_ptr b o) (None ∷ cs) = (λ i. beside nothing (within_placed (block_ptr b (o + type_size R')) cs i)) ∙ (λ i. beside nothing (cells_lent R (block_ptr b (o + size (lone (a.mir_same i)))) cs))
    within_placed (block_ptr b o) (Some x ∷ cs) = (λ i. beside (beside (said ftrue) (a.shr_same x i b o)) (within_placed (block_ptr b (o + type_size R')) cs i))
        ∙ (λ i. beside (cell_lent R (block_ptr b o) (Some x)) (cells_lent R (block_ptr b (o + size (lone (a.mir_same i)))) cs))

  pub the_places : Alike R R' h → Alike (row.the_row R) (row.the_row R') ((the_former this).map R.Denot R'.Denot h)
  the_places a = record {
    mir_same = refl;
    own_same = λ d i vs. fsep ((Struct (shape (row.the_type R))).own_val (to (row.the_type R) d) vs) (fsep (bound_placed a d.cells i) (in_block d.at (cells_placed a d.at d.cells i)));
    shr_same = λ d i b o. beside ((Struct (shape (row.the_type R))).shr_at (to (row.the_type R) d) b o) (beside (said (bound_placed a d.cells i)) (within_placed a d.at d.cells i));
  }

  pub cell_recoded : Recodes R R' h → (c : Option R.Denot) → (coded_option R.coded).code c ≡ (coded_option R'.coded).code (mapped_cell h c)
  cell_recoded e None = refl
  cell_recoded e (Some x) = ap (gcons (gnum 1)) (sym (e x))

  pub the_codes_placed : Recodes R R' h → Recodes (row.the_row R) (row.the_row R') ((the_former this).map R.Denot R'.Denot h)
  the_codes_placed e d = ap (λ x. gcons (gcons gnil gnil) (gcons (coded_ptr.code d.at) (gcons x gnil)))
      (sym (code_map (coded_option R.coded).code (coded_option R'.coded).code (mapped_cell h) (cell_recoded e) d.cells))
