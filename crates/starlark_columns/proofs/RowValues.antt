-- The machine values of the types with pointers and of the kit's `Slots`. A `Row` as a value: of empty cells it is made
-- of uninitialized memory, or of nothing if the cells take no bytes, and becomes that again; and a row whose cells were
-- taken out gets them back. Re-exports the other names of this crate that proofs by hand over rows cite. Assumes
-- `Logic`.
use Rattle.starlark_columns.proofs.LogicNames.{◌≡◌, ℕ, ◌*◌, ◌<◌, ◌^◌, List, [], ◌∷◌, length, Option, refl, sym, subst, lit<, Ura, Fml, fsep, froom, full_share, ent, sep, emp, via, Val, never, id⊢, ty_array, length-replicate, Item, mean, ‵, some, given, ◌$◌, ◌∵◌, !, qed, by, move, keep, fpack, rewrite, fsplit, fjoin, flt_i, flt_l, show, check, done, Logic, sem, RattleType, Ptr, block_ptr, in_block, in_a_block, mem, cell_at, part_of, El, el_x, elτ, R, type_size, None, empties, ◌+◌, ◌-◌, ◌++◌, ◌∙◌, Some, ap, map, slice_set, raw, ◌⊛◌, use2, split, cells, refill, front_of, length-set, length-map, items_of, vstruct, vcons, vnil, of_list, use0, Is, makes_shadow, shape, Struct, Err, live, owned, Struct-Makes, err_of, w64, ty_ptr, ty_int, ty_struct, tcons, tnil, has_ty, WT, null_ptr, ptr_val, Sr, words_val, T, list_drop}
use types.Kit.{Goal, Step, step}
use Rattle.starlark_columns.proofs.ItemsAtFront.{IsFront, with_items, written_cells}
pub use Rattle.starlark_columns.proofs.Addresses.{word, word_good, address_made, address_told}
use Rattle.core.specs.contracts as core
pub use Rattle.starlark_columns.specs.contracts.block.Address.{the_row as AddressOf}
pub use Rattle.starlark_columns.specs.contracts.block.Claim.{the_row as ClaimOf}
pub use Rattle.starlark_columns.specs.contracts.block.PairClaim.{the_row as PairClaimOf}
pub use Rattle.starlark_columns.specs.contracts.row.Row.{the_row as RowOf}
use Rattle.starlark_columns.specs.contracts.row.Row as row
pub use denote.Struct.Declared.{shape as declared}
pub use Rattle.starlark_columns.specs.Ownership.{cells_owned, claim_owned, row_owned, within_lent}
pub use Rattle.starlark_columns.proofs.Layouts.{both_within, cut_in_two, no_weight, some_weight}
pub use Rattle.starlark_columns.specs.Pair.{behind, pair_ty, rooms_rejoin, second_offset, skipped, two_arrays, type_align}
pub use Rattle.starlark_columns.proofs.Memory.{Cell, Row, Without, cell_in, cell_out, cells_back, cells_count, cut, emptied_count, empties_run, glue, of_items, of_room, of_slots, run_seen, to_room, to_slots, weightless}
pub use Rattle.starlark_columns.specs.Lend.{with_cells}
pub use Rattle.starlark_columns.proofs.CellsOfSlots.{filled_within, range_long}
use Rattle.std_alloc.proofs.VecSteps.El.{El as Held, no_al}
pub use Rattle.std_alloc.proofs.vec.Spares.{From, at_from, Made, from_goes, from_gives, Into, at_into, Into-goes, Into-gives, parts_typed}
pub use Rattle.starlark_columns.specs.Slots.{cells_of, emptied}
pub use Rattle.starlark_columns.proofs.LentParts.{as_struct, as_tuple}

-- the machine value of a `Row`, a `Claim` or a `PairClaim`, which take no bytes
abbrev pub mark : Val
mark = vstruct (vcons (vstruct vnil) vnil)

module _ (Q : RattleType) where
  -- the type of a `Row`, a `Claim` or a `PairClaim` without its cells or its right
  abbrev pub Marked : RattleType
  Marked = Struct (shape (row.the_type Q))

  pub mark_told : (vs : List Val) → Is Marked (tt, tt) vs → vs ≡ mark ∷ []
  mark_told vs is = is.1.0 ∙ ap (λ (ws : List Val). vstruct (of_list (ws ++ [])) ∷ []) is.1.1.0.1.0

-- the cells or the right, together with the mark, are the value
pub marked : {M : Type 1} {𝓤 : Ura M} {𝓛 : Logic 𝓤} {K : Type 0} {Γ : List (Item 𝓤)} {G : Goal 𝓤 𝓛.H} → K → (Q : RattleType) {F : Fml} → Step K 𝓛 (‵ (fsep ((Marked Q).own_val (tt, tt) (mark ∷ [])) F) ∷ Γ) G (‵ F ∷ Γ) G
marked {𝓛 = 𝓛} t Q = step (λ s. use0 𝓛 (‵ ((Marked Q).own_val (tt, tt) (mark ∷ [])))
    (makes_shadow 𝓛 ((Marked Q).own_val (tt, tt) (mark ∷ [])) (λ vss. (tt, ((λ uss. (tt, tt)), tt))) ((vstruct vnil ∷ [], tt), (refl, ((tt, (refl, tt)), tt)))) $ fjoin t $ s)

-- the machine value of `Err(AllocError)`
abbrev pub no_block : Val
no_block = live 1 (vcons (vstruct vnil) vnil)

pub refused : {M : Type 1} {𝓤 : Ura M} (𝓛 : Logic 𝓤) (Q : RattleType) → ent 𝓤 (emp 𝓤) (sem 𝓛 ((core.result.Result.the_row Q core.alloc.AllocError.the_row).own_val (Err (record {})) (no_block ∷ [])))
refused 𝓛 Q = let S = declared core.alloc.AllocError.the_type in
    qed 𝓛 [] ∵ owned ! (Struct S) (Is (Struct S)) (Struct-Makes 𝓛 S tt) tt (vstruct vnil ∷ []) (tt, (refl, tt)) $ by ! (err_of 𝓛 Q core.alloc.AllocError.the_row (record {}) (vstruct vnil))

-- the item's type as the kit's calls take it, without an allocator
abbrev pub held : El → Held
held E = record { row = E.row; laws = E.laws; al = no_al }

-- the machine value of `Slots` is its pointer and its count
pub row_told : (E : El) (r : (Sr E).Denot) (vs : List Val) → Is (Sr E) r vs → vs ≡ words_val r.ptr r.len ∷ []
row_told E r vs is = let two = is.0 in two.1.0 ∙ ap (λ (ws : List Val). vstruct (of_list (ws ++ (two.0.1.0 ++ []))) ∷ []) two.1.1.0 ∙ ap (λ (ws : List Val). vstruct (of_list (ptr_val r.ptr ∷ (ws ++ []))) ∷ []) two.1.1.1.0.0

pub row_good : (p : Ptr) (n : ℕ) → n < 2 ^ 64 → T (has_ty (ty_struct [] (tcons ty_ptr (tcons (ty_int w64) tnil))) (words_val p n)) × WT (words_val p n)
row_good (block_ptr b o) n word = (tt, (tt, (record { fits = word }, tt)))
row_good null_ptr n word = (tt, (record { fits = lit< tt }, (record { fits = word }, tt)))

module _ (E : El) {M : Type 1} {𝓤 : Ura M} (𝓛 : Logic 𝓤) (n : ℕ) where
  open 𝓛 use {H}

  module _ (b o : ℕ) where
    abbrev pub here : (RowOf (R E)).Denot
    here = record { mark = record {}; at = block_ptr b o; cells = empties n }

    of_cells : n * type_size (R E) < 2 ^ 63 → ent 𝓤 (sem 𝓛 (Row E b o (empties n))) (sem 𝓛 ((RowOf (R E)).own_val here (mark ∷ [])))
    of_cells few = qed 𝓛 (‵ (Row E b o (empties n)) ∷ []) ∵ flt_i ! (length {A = Option (el_x E)} (empties n) * type_size (R E)) (2 ^ 63) (subst (λ k. k * type_size (R E) < 2 ^ 63) (sym (length-replicate n None)) few) $ fjoin ! $ marked ! (R E) $ done !

    pub row_of_room : n * type_size (R E) < 2 ^ 63 → ent 𝓤 (H.room (ty_array (elτ E) n) b o) (sem 𝓛 ((RowOf (R E)).own_val here (mark ∷ [])))
    row_of_room few = via 𝓤 (sem 𝓛 (Row E b o (empties n))) (of_room E b 𝓛 n o) (of_cells few)

    pub row_of_none : n * type_size (R E) ≡ 0 → ent 𝓤 (emp 𝓤) (sem 𝓛 ((RowOf (R E)).own_val here (mark ∷ [])))
    row_of_none light = via 𝓤 (sem 𝓛 (Row E b o (empties n))) (weightless E b 𝓛 n o light) (of_cells (subst (λ k. k < 2 ^ 63) (sym light) (lit< tt)))

  module _ (p : Ptr) where
    -- uninitialized memory of n items in a block, at the address p
    abbrev pub RoomAt : ℕ × ℕ → Item 𝓤
    RoomAt z = given ((p ≡ block_ptr z.0 z.1) × (n * type_size (R E) < 2 ^ 63)) (‵ (froom (ty_array (elτ E) n) z.0 z.1))

    pub room_of_row : (h : (RowOf (R E)).Denot) → h.at ≡ p → h.cells ≡ empties n → ent 𝓤 (sem 𝓛 ((RowOf (R E)).own_val h (mark ∷ []))) (mean 𝓛 (some RoomAt))
    room_of_row h at bare = qed 𝓛 (‵ ((RowOf (R E)).own_val h (mark ∷ [])) ∷ []) ∵ fsplit ! $ keep ! (1 ∷ []) $
        rewrite ! 0 (λ (z : Ptr × List (Option (el_x E))). ‵ (row_owned (R E) z.0 z.1)) {x = (p, empties n)} {y = (h.at, h.cells)} (λ i. (at i, bare i)) refl $ fsplit ! $ flt_l ! (λ few.
        in_a_block ! p (λ r. in_block r (cells_owned (R E) r (empties n))) (id⊢ 𝓤 (never 𝓤)) (λ b o is.
        show ! (λ (z : ℕ × ℕ). mean 𝓛 (RoomAt z)) (b, o) $ check ! (is, subst (λ k. k * type_size (R E) < 2 ^ 63) (length-replicate n None) few) $ by ! (to_room E b 𝓛 n o)))

module _ (E : El) {M : Type 1} {𝓤 : Ura M} (𝓛 : Logic 𝓤) (h : (RowOf (R E)).Denot) (rb ro : ℕ) (vs : List Val) (b o : ℕ) where
  -- what is left of the row at (rb, ro) while its cells are taken out
  abbrev pub Shell : Fml
  Shell = fsep ((Marked (R E)).own_val (tt, tt) vs) (cell_at full_share (RowOf (R E)).mir vs rb ro)

  pub shut : h.at ≡ block_ptr b o → length h.cells * type_size (R E) < 2 ^ 63 → (ds : List (Option (el_x E))) → length ds ≡ length h.cells
      → ent 𝓤 (sep 𝓤 (sem 𝓛 (Row E b o ds)) (sem 𝓛 Shell)) (sem 𝓛 ((mem (RowOf (R E))).own_at (with_cells h ds) rb ro))
  unfolding part_of
  shut at few ds long = let s = type_size (R E) in
      qed 𝓛 (‵ (Row E b o ds) ∷ ‵ Shell ∷ []) ∵ flt_i ! (length ds * s) (2 ^ 63) (subst (λ k. k * s < 2 ^ 63) (sym long) few) $ fjoin ! $ rewrite ! 0 (λ (p : Ptr). ‵ (row_owned (R E) p ds)) (sym at) refl $
      move ! (1 ∷ []) $ fsplit ! $ move ! (0 ∷ 2 ∷ []) $ fjoin ! $ move ! (1 ∷ 0 ∷ []) $ fjoin ! $
      fpack ! (List Val) (λ us. fsep (cell_at full_share (RowOf (R E)).mir us rb ro) ((RowOf (R E)).own_val (with_cells h ds) us)) vs $ done !

  -- the row again, once its cell at i comes back with the item w
  pub cell_shut : h.at ≡ block_ptr b o → length h.cells * type_size (R E) < 2 ^ 63 → (i : ℕ) (w : el_x E)
      → ent 𝓤 (sep 𝓤 (sem 𝓛 ((mem (R E)).own_at w b (i * type_size (R E) + o))) (sep 𝓤 (Without E b 𝓛 h.cells i o) (sem 𝓛 Shell))) (sem 𝓛 ((mem (RowOf (R E))).own_at (with_cells h (slice_set h.cells i (Some w))) rb ro))
  cell_shut at few i w = let ds = slice_set h.cells i (Some w) in
      qed 𝓛 (‵ (Cell E b (i * type_size (R E) + o) (Some w)) ∷ (raw (Without E b 𝓛 h.cells i o) ⊛ ‵ Shell) ∷ []) ∵ move ! (1 ∷ []) $ split ! $ move ! (2 ∷ 0 ∷ []) $
      use2 𝓛 (‵ (Row E b o ds)) (cell_in E b 𝓛 h.cells i o (Some w)) $ by ! (shut at few ds (length-set h.cells i (Some w)))

  -- the row again, once the items at its front come back as ws
  pub front_shut : h.at ≡ block_ptr b o → length h.cells * type_size (R E) < 2 ^ 63 → (n : ℕ) → IsFront h.cells n → (ws : List (el_x E)) → length ws ≡ length (items_of h.cells)
      → ent 𝓤 (sep 𝓤 (sem 𝓛 (cells (mem (R E)) ws b o)) (sem 𝓛 (fsep (Row E b (n * type_size (R E) + o) (empties (length h.cells - n))) Shell))) (sem 𝓛 ((mem (RowOf (R E))).own_at (with_cells h (with_items h.cells ws)) rb ro))
  front_shut at few n front ws same =
      let cs = h.cells in let xs = items_of cs in let free : List (Option (el_x E)) = empties (length cs - n) in let end : ℕ = n * type_size (R E) + o in let ds = with_items cs ws in
      let all : refill (length xs) xs ws ≡ ws = front_of ws (list_drop (length ws) xs) (length xs) same in
      let is : map Some ws ++ free ≡ ds = ap (λ (k : ℕ). map Some ws ++ empties (length cs - k)) (sym (same ∙ front.count)) ∙ (λ i. map Some (sym all i) ++ empties (length cs - length (sym all i))) in
      qed 𝓛 (‵ (cells (mem (R E)) ws b o) ∷ ‵ (fsep (Row E b end free) Shell) ∷ []) ∵ rewrite ! 0 ‵ (of_items E b ws o) refl $ move ! (1 ∷ []) $ fsplit ! $ move ! (2 ∷ 0 ∷ []) $
      use2 𝓛 (‵ (Row E b o (map Some ws ++ free))) (glue E b 𝓛 (map Some ws) free o end (ap (λ (k : ℕ). k * type_size (R E) + o) (sym (length-map ws Some ∙ same ∙ front.count)))) $
      rewrite ! 0 (λ (l : List (Option (el_x E))). ‵ (Row E b o l)) is refl $ by ! (shut at few ds (written_cells cs n front ws))
