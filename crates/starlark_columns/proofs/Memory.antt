-- The memory of a row of cells: it is made of uninitialized memory, split and joined, and read as the kit's `Slots` or
-- as the items of a slice. Assumes `Logic`.
use Rattle.starlark_columns.proofs.LogicNames.{◌≡◌, ℕ, zero, suc, ◌+◌, ◌*◌, ◌≤◌, ◌<◌, Bool, true, false, List, [], ◌∷◌, ◌++◌, map, length, Option, Some, refl, sym, ap, subst, ◌∙◌, arith, zero-mul, suc-mul, get_or, set, at_mul, cut_app, join_app, Ura, Fml, Lft, fsep, fat, froom, full_share, SProp, ent, sep, emp, wand, all, used_at, via, id⊢, snd∗, mono_r, ty_array, Val, dv_self, align, ‵, raw, ◌⊛◌, some, given, ◌$◌, ◌∵◌, !, qed, by, move, keep, use1, split, pick, learn, rewrite, fsplit, frame, done, Logic, sem, SemTy, cells, mem, part_at, block_ptr, elements_shared, El, el_x, elτ, el_out, slots, drop_split, slice_range, type_size, unwrap_or, is_some, list_drop, None, empties}
use Rattle.std.specs.Coded.{coded_option}
use borrow.Table.Elements.{focus_any}
use Rattle.core.proofs.mem.Param.{R, Good}
use Rattle.starlark_columns.specs.Ownership.{cell_owned, cells_owned, cell_lent, cells_lent}
use Rattle.starlark_columns.specs.Slots.{cells_of, emptied}

module _ {X : Type 0} where
  pub cells_back : (d : X) (cs : List (Option X)) → cells_of (map (λ c. unwrap_or c d) cs) (map is_some cs) ≡ cs
  cells_back d [] = refl
  cells_back d (None ∷ cs) = rw (cells_back d cs)
  cells_back d (Some x ∷ cs) = rw (cells_back d cs)

  pub cells_count : (xs : List X) (fs : List Bool) → length fs ≡ length xs → length (cells_of xs fs) ≡ length xs
  cells_count (x ∷ xs) (f ∷ fs) e = omega (arith, cells_count xs fs (omega arith))
  cells_count xs fs e = grind arith

  pub emptied_count : (from to : ℕ) (cs : List (Option X)) → length (emptied from to cs) ≡ length cs
  emptied_count from to [] = refl
  emptied_count zero (suc to) (c ∷ cs) = rw (emptied_count zero to cs)
  emptied_count (suc from) (suc to) (c ∷ cs) = rw (emptied_count from to cs)
  emptied_count from to (c ∷ cs) = refl

module _ (E : El) (b : ℕ) where
  abbrev s : ℕ
  s = type_size (R E)

  abbrev pub Cell : ℕ → Option (el_x E) → Fml
  Cell o c = cell_owned (R E) (block_ptr b o) c

  abbrev pub Row : ℕ → List (Option (el_x E)) → Fml
  Row o cs = cells_owned (R E) (block_ptr b o) cs

  -- a cell as the type of the elements of an array
  abbrev Place : SemTy
  Place = record { rep = Option (el_x E); coded = coded_option E.row.coded; size = s; own_at = λ c d o. Cell o c }

  of_places : (cs : List (Option (el_x E))) (o : ℕ) → cells Place cs b o ≡ Row o cs
  of_places [] o = refl
  of_places (c ∷ cs) o = ap (fsep (Cell o c)) (of_places cs (o + s))

  pub of_slots : (xs : List (el_x E)) (fs : List Bool) (o : ℕ) → slots (R E) (block_ptr b o) xs fs ≡ Row o (cells_of xs fs)
  of_slots (x ∷ xs) (true ∷ fs) o = ap (fsep (Cell o (Some x))) (of_slots xs fs (o + s))
  of_slots (x ∷ xs) (false ∷ fs) o = ap (fsep (Cell o None)) (of_slots xs fs (o + s))
  of_slots xs fs o = refl

  pub to_slots : (d : el_x E) (cs : List (Option (el_x E))) (o : ℕ) → Row o cs ≡ slots (R E) (block_ptr b o) (map (λ c. unwrap_or c d) cs) (map is_some cs)
  to_slots d cs o = ap (Row o) (sym (cells_back d cs)) ∙ sym (of_slots (map (λ c. unwrap_or c d) cs) (map is_some cs) o)

  pub of_items : (xs : List (el_x E)) (o : ℕ) → cells (mem (R E)) xs b o ≡ Row o (map Some xs)
  of_items [] o = refl
  of_items (x ∷ xs) o = ap (fsep (Cell o (Some x))) (of_items xs (o + s))

  module _ {M : Type 1} {𝓤 : Ura M} (𝓛 : Logic 𝓤) where
    open 𝓛 use {H}

    pub of_room : (n o : ℕ) → ent 𝓤 (H.room (ty_array (elτ E) n) b o) (sem 𝓛 (Row o (empties n)))
    of_room zero o = qed 𝓛 (‵ (froom (ty_array (elτ E) 0) b o) ∷ []) ∵ keep ! [] $ done !
    of_room (suc n) o = qed 𝓛 (‵ (froom (ty_array (elτ E) (suc n)) b o) ∷ []) ∵
        use1 𝓛 (‵ (froom (elτ E) b o) ⊛ ‵ (froom (ty_array (elτ E) n) b (o + s))) (𝓛.laws.room_uncons (elτ E) n b o) $ split ! $
        use1 𝓛 (‵ (Cell o None)) (𝓛.laws.room-raw (elτ E) b o) $ frame ! $ by ! (of_room n (o + s))

    pub to_room : (n o : ℕ) → ent 𝓤 (sem 𝓛 (Row o (empties n))) (H.room (ty_array (elτ E) n) b o)
    to_room zero o = 𝓛.laws.room_nil (elτ E) b o
    to_room (suc n) o = qed 𝓛 (‵ (Row o (empties (suc n))) ∷ []) ∵ fsplit ! $
        use1 𝓛 (‵ (froom (elτ E) b o)) (𝓛.laws.raw-room (elτ E) b o) $ move ! (1 ∷ []) $
        use1 𝓛 (‵ (froom (ty_array (elτ E) n) b (o + s))) (to_room n (o + s)) $ move ! (1 ∷ 0 ∷ []) $ by ! (𝓛.laws.room_cons (elτ E) n b o)

    -- cells that take no bytes are owned at any address
    pub weightless : (n o : ℕ) → n * s ≡ 0 → ent 𝓤 (emp 𝓤) (sem 𝓛 (Row o (empties n)))
    weightless n o light = let τ = ty_array (elτ E) n in let nil = ty_array (elτ E) 0 in
        via 𝓤 (H.room nil b o) (𝓛.laws.room_nil (elτ E) b o) (qed 𝓛 (‵ (froom nil b o) ∷ []) ∵
        use1 𝓛 (‵ (froom τ b o) ⊛ raw (wand 𝓤 (H.room τ b o) (H.room nil b o))) (𝓛.laws.room_as nil τ b o (light ∙ sym (zero-mul s)) (dv_self (align (elτ E)))) $ split ! $
        keep ! (0 ∷ []) $ by ! (of_room n o))

    -- the item of a cell may be forgotten
    forgets : (o : ℕ) (c : Option (el_x E)) → ent 𝓤 (sem 𝓛 (Cell o c)) (sem 𝓛 (Cell o None))
    forgets o None = id⊢ 𝓤 _
    forgets o (Some x) = qed 𝓛 (‵ (part_at (R E) full_share x b o) ∷ []) ∵
        use1 𝓛 (some (λ (v : Val). given (Good E v) (‵ (fat full_share (elτ E) b o v) ⊛ ‵ (E.row.own_val x (v ∷ []))))) (el_out E 𝓛 b x o) $ pick ! (λ v. learn ! (λ good. split ! $
        keep ! (0 ∷ []) $ use1 𝓛 (‵ (froom (elτ E) b o)) (𝓛.laws.at_room (elτ E) b o v) $ by ! (𝓛.laws.room-raw (elτ E) b o)))

    pub empties_run : (from to : ℕ) (cs : List (Option (el_x E))) (o : ℕ) → ent 𝓤 (sem 𝓛 (Row o cs)) (sem 𝓛 (Row o (emptied from to cs)))
    empties_run from to [] o = id⊢ 𝓤 _
    empties_run zero (suc to) (c ∷ cs) o = qed 𝓛 (‵ (Row o (c ∷ cs)) ∷ []) ∵ fsplit ! $ use1 𝓛 (‵ (Cell o None)) (forgets o c) $ frame ! $ by ! (empties_run zero to cs (o + s))
    empties_run (suc from) (suc to) (c ∷ cs) o = mono_r 𝓤 (sem 𝓛 (Cell o c)) (empties_run from to cs (o + s))
    empties_run from to (c ∷ cs) o = id⊢ 𝓤 _

    -- what is lent by a `&` to the cells
    module _ (κ : Lft) where
      abbrev Seen : ℕ → List (Option (el_x E)) → Fml
      Seen o cs = cells_lent (R E) (block_ptr b o) cs κ

      past : (i o at : ℕ) (cs : List (Option (el_x E))) → i ≤ length cs → at ≡ i * s + o → ent 𝓤 (sem 𝓛 (Seen o cs)) (sem 𝓛 (Seen at (list_drop i cs)))
      past zero o at cs le e = subst (λ (k : ℕ). ent 𝓤 (sem 𝓛 (Seen o cs)) (sem 𝓛 (Seen k cs))) (let same : o ≡ at = omega (arith, e, zero-mul s) in same) (id⊢ 𝓤 _)
      past (suc i) o at [] le e = absurd (omega (arith, le))
      past (suc i) o at (c ∷ cs) le e =
          via 𝓤 (sem 𝓛 (Seen (o + s) cs)) (snd∗ 𝓤 (sem 𝓛 (cell_lent (R E) (block_ptr b o) c κ)) (sem 𝓛 (Seen (o + s) cs))) (past i (o + s) at cs (omega (arith, le)) (omega (arith, e, suc-mul i s)))

      front : (xs : List (el_x E)) (rest : List (Option (el_x E))) (o : ℕ) → ent 𝓤 (sem 𝓛 (Seen o (map Some xs ++ rest))) (sem 𝓛 (elements_shared (R E) xs b o κ))
      front [] rest o = qed 𝓛 (‵ (Seen o rest) ∷ []) ∵ keep ! [] $ done !
      front (x ∷ xs) rest o = qed 𝓛 (‵ (Seen o (Some x ∷ (map Some xs ++ rest))) ∷ []) ∵ fsplit ! $ fsplit ! $ keep ! (1 ∷ 2 ∷ []) $ frame ! $ by ! (front xs rest (o + s))

      pub run_seen : (cs : List (Option (el_x E))) (from to o : ℕ) (xs : List (el_x E)) → from ≤ to → to ≤ length cs → slice_range cs from to ≡ map Some xs
          → ent 𝓤 (sem 𝓛 (Seen o cs)) (sem 𝓛 (elements_shared (R E) xs b (from * s + o) κ))
      run_seen cs from to o xs ordered within e = let at = from * s + o in qed 𝓛 (‵ (Seen o cs) ∷ []) ∵ use1 𝓛 (‵ (Seen at (list_drop from cs))) (past from o at cs (omega (arith, ordered, within)) refl) $
          rewrite ! 0 (λ (l : List (Option (el_x E))). ‵ (Seen at l)) (drop_split cs from to ordered ∙ ap (λ l. l ++ list_drop to cs) e) refl $ by ! (front xs (list_drop to cs) at)

    pub cut : (cs ds : List (Option (el_x E))) (o at : ℕ) → at ≡ length cs * s + o → ent 𝓤 (sem 𝓛 (Row o (cs ++ ds))) (sep 𝓤 (sem 𝓛 (Row o cs)) (sem 𝓛 (Row at ds)))
    cut cs ds o at e = subst (λ (z : (List (Option (el_x E)) → ℕ → Fml) × ℕ). ent 𝓤 (sem 𝓛 (z.0 (cs ++ ds) o)) (sep 𝓤 (sem 𝓛 (z.0 cs o)) (sem 𝓛 (z.0 ds z.1))))
        (λ j. (λ es k. of_places es k j, (at_mul o s (length cs) ∙ sym e) j)) (cut_app 𝓛 Place cs ds b o)

    pub glue : (cs ds : List (Option (el_x E))) (o at : ℕ) → at ≡ length cs * s + o → ent 𝓤 (sep 𝓤 (sem 𝓛 (Row o cs)) (sem 𝓛 (Row at ds))) (sem 𝓛 (Row o (cs ++ ds)))
    glue cs ds o at e = subst (λ (z : (List (Option (el_x E)) → ℕ → Fml) × ℕ). ent 𝓤 (sep 𝓤 (sem 𝓛 (z.0 cs o)) (sem 𝓛 (z.0 ds z.1))) (sem 𝓛 (z.0 (cs ++ ds) o)))
        (λ j. (λ es k. of_places es k j, (at_mul o s (length cs) ∙ sym e) j)) (join_app 𝓛 Place cs ds b o)

    -- a row without its cell at i: given that cell, it is the row again
    abbrev pub Without : List (Option (el_x E)) → ℕ → ℕ → SProp 𝓤
    Without cs i o = all 𝓤 (λ c. wand 𝓤 (sem 𝓛 (Cell (i * s + o) c)) (sem 𝓛 (Row o (set cs i c))))

    pub cell_out : (cs : List (Option (el_x E))) (i o : ℕ) → i < length cs → ent 𝓤 (sem 𝓛 (Row o cs)) (sep 𝓤 (sem 𝓛 (Cell (i * s + o) (get_or cs i None))) (Without cs i o))
    cell_out cs i o lt = subst (λ (z : (List (Option (el_x E)) → Fml) × ℕ). ent 𝓤 (sem 𝓛 (z.0 cs)) (sep 𝓤 (sem 𝓛 (Cell z.1 (get_or cs i None))) (all 𝓤 (λ c. wand 𝓤 (sem 𝓛 (Cell z.1 c)) (sem 𝓛 (z.0 (set cs i c)))))))
        (λ j. (λ ds. of_places ds o j, at_mul o s i j)) (focus_any 𝓛 Place None i cs b o lt)

    pub cell_in : (cs : List (Option (el_x E))) (i o : ℕ) (c : Option (el_x E)) → ent 𝓤 (sep 𝓤 (sem 𝓛 (Cell (i * s + o) c)) (Without cs i o)) (sem 𝓛 (Row o (set cs i c)))
    cell_in cs i o = used_at 𝓤 (λ d. sem 𝓛 (Cell (i * s + o) d)) (λ d. sem 𝓛 (Row o (set cs i d)))
