-- Cells that are lent together, from which the next is taken, to be written or skipped. Assumes `Logic`.
--     item_off    the item of a full cell is taken, and the cells behind it are left
--     cell_off    a cell is skipped, and the cells behind it are left
--     loan_told   the machine value of a loan
use Rattle.starlark_columns.proofs.LogicNames.{◌≡◌, refl, sym, ap, ℕ, ◌+◌, ◌<◌, arith, List, [], ◌∷◌, length, Ura, ent, sep, emp, Lft, GName, Share, flft, fobs, fbor, Item, ‵, raw, ◌⊛◌, some, later, mean, ◌$◌, ◌∵◌, !, qed, move, keep, use1, split, split3, pick, fsplit, fjoin, rewrite, group, await, updating, now, show, done, Logic, sem, Body, open_ref, after₂, takes_part, takes_two, RattleType, block_ptr, nothing, None, type_size, suc, ◌*◌, ◌^◌, ◌++◌, ◌∙◌, subst, suc-mul, times_below, Val, vstruct, vcons, vnil, vptr, of_list, ptr_val, Ptr, NamedLft, Is, Fml, given, check, flt_i, flt_l, list_drop, Option, Some, IsFilled, after₁}
use Rattle.starlark_columns.specs.Ownership.{cell_owned}
use Rattle.starlark_columns.specs.contracts.column.Column.{the_row}
use Rattle.starlark_columns.proofs.CellsOfSlots.{filled_within}
use Rattle.starlark_columns.specs.contracts.loan.Loan as loan
use Rattle.starlark_columns.specs.declared.loan.Keeps as Keeps
pub use Rattle.starlark_columns.specs.Loan.{kept_cell, kept_cells, KeptItem, KeptCells, lent_item, lent_cells, lent_from}

-- a loan that begins in a block is one machine value
pub loan_told : (ℓ : NamedLft) (K P : RattleType) (g : Keeps.Ghosts P.Denot K.Denot) (d : (loan.the_row ℓ K P g).Denot) (vs : List Val) (b o : ℕ) → Is (loan.the_row ℓ K P g) d vs → d.start ≡ block_ptr b o
    → vs ≡ vstruct (vcons (vptr b o) (vcons (vstruct vnil) vnil)) ∷ []
loan_told ℓ K P g d vs b o is at = let two = is.0 in
    two.1.0 ∙ (λ i. vstruct (of_list (two.1.1.0 i ++ (two.1.1.1.0.1.0 i ++ []))) ∷ []) ∙ ap (λ (p : Ptr). vstruct (vcons (ptr_val p) (vcons (vstruct vnil) vnil)) ∷ []) at

module _ {X : Type 0} (kept : X → X → X) where
  pub length-kept_cells : (cs ws : List (Option X)) → length (kept_cells kept cs ws) ≡ length cs
  length-kept_cells [] ws = refl
  length-kept_cells (c ∷ cs) [] = rw (length-kept_cells cs [])
  length-kept_cells (c ∷ cs) (w ∷ ws) = rw (length-kept_cells cs ws)

  module _ (itself : (x : X) → kept x x ≡ x) where
    pub cell_itself : (c : Option X) → kept_cell kept c c ≡ c
    cell_itself None = refl
    cell_itself (Some x) = ap Some (itself x)

    pub cells_itself : (cs : List (Option X)) → kept_cells kept cs cs ≡ cs
    cells_itself [] = refl
    cells_itself (c ∷ cs) = λ i. cell_itself c i ∷ cells_itself cs i

-- the lent cells from the index i on, in the block at o
module _ (R : RattleType) (kept : R.Denot → R.Denot → R.Denot) (itself : (x : R.Denot) → kept x x ≡ x) {M : Type 1} {𝓤 : Ura M} (𝓛 : Logic 𝓤) (κ : Lft) (q : Share) (b o i : ℕ) (γ : GName) where
  open 𝓛 use {H, A}

  abbrev here : ℕ
  here = i * type_size R + o

  abbrev Behind : GName → List (Option R.Denot) → Fml
  Behind δ cs = lent_from κ R kept (block_ptr b o) (suc i) δ cs

  behind : (δ : GName) (cs : List (Option R.Denot)) → (i + suc (length cs)) * type_size R < 2 ^ 63 → ent 𝓤 (sem 𝓛 (lent_cells R kept κ b (here + type_size R) δ cs)) (sem 𝓛 (Behind δ cs))
  behind δ cs small = let on : here + type_size R ≡ suc i * type_size R + o = omega (arith, suc-mul i (type_size R)) in let n : i + suc (length cs) ≡ suc i + length cs = omega arith in
      qed 𝓛 (‵ (lent_cells R kept κ b (here + type_size R) δ cs) ∷ []) ∵ rewrite ! 0 (λ (k : ℕ). ‵ (lent_cells R kept κ b k δ cs)) on refl $
      flt_i ! ((suc i + length cs) * type_size R) (2 ^ 63) (subst (λ (k : ℕ). k * type_size R < 2 ^ 63) n small) $ fjoin ! $ done !

  -- what `item_off` gives: the right to write the item, the loan of the cells behind it, and the lifetime's token
  abbrev pub Off : (cs : List (Option R.Denot)) → IsFilled cs 0 → GName × GName → Item 𝓤
  Off cs full γs = given ((cs ≡ Some full.0 ∷ list_drop 1 cs) × (i * type_size R < 2 ^ 64)) (‵ (lent_item R kept κ b here γs.0 full.0) ⊛ ‵ (Behind γs.1 (list_drop 1 cs)) ⊛ ‵ (flft κ q))

  pub item_off : (cs : List (Option R.Denot)) (full : IsFilled cs 0) → ent 𝓤 (sep 𝓤 (sem 𝓛 (lent_from κ R kept (block_ptr b o) i γ cs)) (A.lft κ q)) (H.⇛ (mean 𝓛 (some (Off cs full))))
  item_off [] full = absurd (omega (arith, filled_within [] 0 full))
  item_off (c ∷ cs) full =
      let x = full.0 in let all : List (Option R.Denot) = Some x ∷ cs in
      qed 𝓛 (‵ (lent_from κ R kept (block_ptr b o) i γ (c ∷ cs)) ∷ ‵ (flft κ q) ∷ []) ∵ updating ! $ fsplit ! $ flt_l ! (λ small. let far : i * type_size R < 2 ^ 63 = times_below i (i + suc (length cs)) (type_size R) (2 ^ 63) (omega arith) small in
      rewrite ! 0 (λ (d : Option R.Denot). ‵ (lent_cells R kept κ b here γ (d ∷ cs))) full.1 refl $ fsplit ! $ open_ref ! tt (KeptCells R kept all) {x = all} {b = b} {o = here} $
      fsplit ! $ nothing ! $ move ! (3 ∷ 4 ∷ 5 ∷ 1 ∷ 2 ∷ 0 ∷ []) $ group ! 6 $
      use1 𝓛 (later (some (λ (γs : GName × GName). (‵ (fobs γs.0 (R.coded.code x)) ⊛ ‵ (fbor κ (Body (KeptItem R kept x) b here γs.0))) ⊛ (‵ (fobs γs.1 ((the_row R).coded.code cs)) ⊛ ‵ (fbor κ (Body (KeptCells R kept cs) b (here + type_size R) γs.1)))
      ⊛ ‵ (flft κ q) ⊛ ‵ (after₂ (KeptCells R kept all) (KeptItem R kept x) (KeptCells R kept cs) γ γs.0 γs.1 (λ w ws. Some w ∷ ws)))))
      (takes_two 𝓛 (KeptCells R kept all) (KeptItem R kept x) (KeptCells R kept cs) (λ w ws. Some w ∷ ws) κ q b here b here b (here + type_size R) γ (emp 𝓤)
      (λ w ws. qed 𝓛 (‵ ((KeptItem R kept x).own_at w b here) ∷ ‵ ((KeptCells R kept cs).own_at ws b (here + type_size R)) ∷ raw (emp 𝓤) ∷ []) ∵ fjoin ! $ keep ! (0 ∷ []) $ done !) ((the_row R).coded.code all) ((the_row R).coded.code all) x cs) $ await ! tt $ pick ! (λ γs. split3 ! $
      split ! $ fjoin ! $ move ! (1 ∷ []) $ split ! $ fjoin ! $ use1 𝓛 (‵ (Behind γs.1 cs)) (behind γs.1 cs small) $ move ! (2 ∷ []) $ split ! $
      now ! $ show ! (λ (z : GName × GName). mean 𝓛 (Off (c ∷ cs) full z)) γs $ check ! (ap (λ d. d ∷ cs) full.1, omega (arith, far)) $ keep ! (3 ∷ 2 ∷ 0 ∷ []) $ done !))

  abbrev pub Left : List (Option R.Denot) → GName → Item 𝓤
  Left cs δ = ‵ (Behind δ (list_drop 1 cs)) ⊛ ‵ (flft κ q)

  pub cell_off : (cs : List (Option R.Denot)) → 0 < length cs → ent 𝓤 (sep 𝓤 (sem 𝓛 (lent_from κ R kept (block_ptr b o) i γ cs)) (A.lft κ q)) (H.⇛ (mean 𝓛 (some (Left cs))))
  cell_off [] some_cell = absurd (omega arith)
  cell_off (c ∷ cs) some_cell =
      let all : List (Option R.Denot) = c ∷ cs in
      qed 𝓛 (‵ (lent_from κ R kept (block_ptr b o) i γ all) ∷ ‵ (flft κ q) ∷ []) ∵ updating ! $ fsplit ! $ flt_l ! (λ small. fsplit ! $ open_ref ! tt (KeptCells R kept all) {x = all} {b = b} {o = here} $
      fsplit ! $ rewrite ! 0 (λ (d : Option R.Denot). ‵ (cell_owned R (block_ptr b here) d)) (cell_itself kept itself c) refl $ move ! (2 ∷ 3 ∷ 4 ∷ 1 ∷ 0 ∷ []) $ group ! 5 $
      use1 𝓛 (later (some (λ (δ : GName). ‵ (fobs δ ((the_row R).coded.code cs)) ⊛ ‵ (fbor κ (Body (KeptCells R kept cs) b (here + type_size R) δ)) ⊛ ‵ (flft κ q) ⊛ ‵ (after₁ (KeptCells R kept all) (KeptCells R kept cs) γ δ (λ ws. c ∷ ws)))))
      (takes_part 𝓛 (KeptCells R kept all) (KeptCells R kept cs) (λ ws. c ∷ ws) κ q b here b (here + type_size R) γ (sem 𝓛 (cell_owned R (block_ptr b here) c))
      (λ ws. qed 𝓛 (‵ ((KeptCells R kept cs).own_at ws b (here + type_size R)) ∷ ‵ (cell_owned R (block_ptr b here) c) ∷ []) ∵ move ! (1 ∷ []) $ rewrite ! 0 (λ (d : Option R.Denot). ‵ (cell_owned R (block_ptr b here) d)) (sym (cell_itself kept itself c)) refl $ fjoin ! $ done !)
      ((the_row R).coded.code all) ((the_row R).coded.code all) cs) $ await ! tt $ pick ! (λ δ. split3 ! $
      fjoin ! $ use1 𝓛 (‵ (Behind δ cs)) (behind δ cs small) $ move ! (1 ∷ []) $ split ! $ now ! $ show ! (λ (z : GName). mean 𝓛 (Left all z)) δ $ keep ! (2 ∷ 0 ∷ []) $ done !))
