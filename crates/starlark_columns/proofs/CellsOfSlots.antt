-- What each step on the kit's `Slots` does to the cells that they are read as.
use Rattle.std.proofs.Common.{◌≡◌, ℕ, zero, suc, ◌+◌, ◌-◌, ◌<◌, ◌≤◌, min, max, Bool, true, false, List, [], ◌∷◌, ◌++◌, map, length, take, drop, get_or, Option, Some, None, refl, sym, ap, ◌∙◌, arith, ◌⊎◌, inl, inr, set, slice_range, drop-cons}
use mathlib.Core.Logic.{⊎_elim}
use Rattle.std.proofs.lemmas.List.{take-append-drop, get_or-replicate, length-take, length-drop, length-replicate, length-append, ext_get_or, get_or-take, get_or-drop, get_or_append_left, get_or-append_right, length-map, get_or-map, get_or_past}
use Rattle.std.proofs.lemmas.Bool.{cases_lt}
use Rattle.std.proofs.lemmas.Grind.{common_steps}
use Rattle.std.proofs.lemmas.List.Folds.{drop_split}
use Rattle.starlark_columns.specs.Slots.{cell_of, cells_of, emptied}
use Rattle.core.specs.declared.slots.Slots.{Slots}
use Rattle.starlark_columns.proofs.ItemsAtFront.{empties, IsFilled, AreFilled, AreEmpty, with_range, moved_down, split}
use Rattle.starlark_columns.proofs.Memory.{cells_count, emptied_count}

module _ {X : Type 0} where
  at_row : (xs : List X) (fs : List Bool) (k : ℕ) (d : X) → length fs ≡ length xs → k < length xs → get_or (cells_of xs fs) k None ≡ cell_of (get_or xs k d) (get_or fs k false)
  at_row (x ∷ xs) (f ∷ fs) zero d e lt = refl
  at_row (x ∷ xs) (f ∷ fs) (suc k) d e lt = at_row xs fs k d (omega arith) (omega arith)
  at_row xs fs k d e lt = absurd (omega arith)

  pub set_row : (xs : List X) (fs : List Bool) (i : ℕ) (x : X) (f : Bool) → length fs ≡ length xs → cells_of (set xs i x) (set fs i f) ≡ set (cells_of xs fs) i (cell_of x f)
  set_row (y ∷ xs) (g ∷ fs) (suc i) x f e = rw (set_row xs fs i x f (omega arith))
  set_row xs fs i x f e = grind arith

  pub clear_row : (xs : List X) (fs : List Bool) (i : ℕ) → cells_of xs (set fs i false) ≡ set (cells_of xs fs) i None
  clear_row (y ∷ xs) (g ∷ fs) (suc i) = rw (clear_row xs fs i)
  clear_row xs fs i = refl

  pub none_emptied : (cs : List (Option X)) → emptied 0 0 cs ≡ cs
  none_emptied [] = refl
  none_emptied (c ∷ cs) = refl

  in_emptied : (from to : ℕ) (cs : List (Option X)) (k : ℕ) → from ≤ k → k < to → get_or (emptied from to cs) k None ≡ None
  in_emptied zero (suc to) (c ∷ cs) (suc k) le lt = in_emptied zero to cs k (omega arith) (omega arith)
  in_emptied (suc from) (suc to) (c ∷ cs) (suc k) le lt = in_emptied from to cs k (omega arith) (omega arith)
  in_emptied from to cs k le lt = grind arith

  out_emptied : (from to : ℕ) (cs : List (Option X)) (k : ℕ) → (k < from) ⊎ (to ≤ k) → get_or (emptied from to cs) k None ≡ get_or cs k None
  out_emptied from to [] k out = refl
  out_emptied zero (suc to) (c ∷ cs) (suc k) out = out_emptied zero to cs k (grind arith)
  out_emptied (suc from) (suc to) (c ∷ cs) (suc k) out = out_emptied from to cs k (grind arith)
  out_emptied from to (c ∷ cs) k out = grind arith

  pub filled_within : (cs : List (Option X)) (i : ℕ) → IsFilled cs i → i < length cs
  filled_within cs i f = grind (arith, get_or_past cs i None, f.1)

  -- if a cell holds an item, its slot is flagged as there and holds that item
  pub at_item : (r : Slots X) (cs : List (Option X)) (k : ℕ) (y : X) → cells_of r.items r.filled ≡ cs → get_or cs k None ≡ Some y
      → (k < length r.items) × (get_or r.filled k false ≡ true) × ((d : X) → get_or r.items k d ≡ y)
  at_item r cs k y is at = let some = filled_within cs k (y, at) in let e : length r.filled ≡ length r.items = sym r.ok.1 ∙ r.ok.0 in
      let lt : k < length r.items = omega (arith, ap length is, cells_count r.items r.filled e) in (lt, grind (arith, at_row r.items r.filled k y e lt), λ d. grind (arith, at_row r.items r.filled k d e lt))

  pub at_range : (cs : List (Option X)) (from to j : ℕ) → j < to - from → get_or (slice_range cs from to) j None ≡ get_or cs (from + j) None
  at_range cs from to j lt = rw (get_or-take, get_or-drop)

  pub range_long : (cs : List (Option X)) (from to : ℕ) → from ≤ to → to ≤ length cs → length (slice_range cs from to) ≡ to - from
  range_long cs from to le in_row = simp (length-take, length-drop) (omega arith)

  -- each cell of a filled range is filled
  pub in_filled : (cs : List (Option X)) (from to k : ℕ) → AreFilled cs from to → from ≤ k → k < to → IsFilled cs k
  in_filled cs from to k full le lt = let xs = full.2.0 in let j = k - from in let within : j < length xs = omega (arith, ap length full.2.1, length-map xs Some, range_long cs from to full.0 full.1) in
      let d = (split xs j within).0 in let back : from + j ≡ k = omega arith in (get_or xs j d, cc (back, at_range cs from to j (omega arith), full.2.1, get_or-map Some xs j d None within))

  -- the slots of a row before (r) and after (s) a step
  module _ (r s : Slots X) (cs : List (Option X)) (d : X) (same : s.len ≡ r.len) (is : cells_of r.items r.filled ≡ cs) where
    long : length s.items ≡ length cs
    long = omega (arith, ap length is, cells_count r.items r.filled (omega arith), r.ok.0, s.ok.0)

    pub after_count : (u v : ℕ) → length (emptied u v (cells_of s.items s.filled)) ≡ length cs
    after_count u v = omega (arith, emptied_count u v (cells_of s.items s.filled), cells_count s.items s.filled (omega arith), long)

    -- the cells after the step are those before with ds in one range, if the slots outside that range are unchanged and
    -- not emptied
    ranged : (u v low high : ℕ) (ds : List (Option X)) → low ≤ high → high ≤ length cs → length ds ≡ high - low
        → ((k : ℕ) → k < length cs → (k < low) ⊎ (high ≤ k) → ((k < u) ⊎ (v ≤ k)) × (get_or s.items k d ≡ get_or r.items k d) × (get_or s.filled k false ≡ get_or r.filled k false))
        → ((j : ℕ) → j < high - low → get_or (emptied u v (cells_of s.items s.filled)) (low + j) None ≡ get_or ds j None) → emptied u v (cells_of s.items s.filled) ≡ with_range cs low high ds
    ranged u v low high ds le in_row long_ds out within =
        let cells = cells_of s.items s.filled in let es = emptied u v cells in let count = after_count u v in
        let kept : (k : ℕ) → k < length cs → (k < low) ⊎ (high ≤ k) → get_or es k None ≡ get_or cs k None = λ k lt off. let o = out k lt off in
        cc (out_emptied u v cells k o.0, at_row s.items s.filled k d (omega arith) (omega (arith, long)), at_row r.items r.filled k d (omega arith) (omega (arith, long, r.ok.0, s.ok.0)), o.1, o.2) in
        ext_get_or None es (with_range cs low high ds) (simp (length-append, length-take, length-drop) (omega arith))
        (λ k lt. grind (arith, kept k (omega arith), within (k - low), length-take low cs, get_or_append_left {A = Option X}, get_or-append_right {X = Option X}, get_or-take {A = Option X}, get_or-drop {A = Option X}))

    pub down : (from end to : ℕ) → AreFilled cs from end → AreEmpty cs to from → ((k : ℕ) → k < end - from → get_or s.items (to + k) d ≡ get_or r.items (from + k) d)
        → ((k : ℕ) → (k < to) ⊎ (to + (end - from) ≤ k) → get_or s.items k d ≡ get_or r.items k d) → ((k : ℕ) → to ≤ k → k < to + (end - from) → get_or s.filled k false ≡ true)
        → ((k : ℕ) → (k < min from to) ⊎ (max from to + (end - from) ≤ k) → get_or s.filled k false ≡ get_or r.filled k false) → emptied (to + (end - from)) end (cells_of s.items s.filled) ≡ moved_down cs from end to
    down from end to full gap moved items there flags =
        let n = end - from in let run = slice_range cs from end in let n_long = range_long cs from end full.0 full.1 in let le = gap.0 in
        ranged (to + n) end to end (run ++ empties (from - to)) (omega (arith, full.0)) full.1 (simp (length-append, length-replicate) (omega (arith, full.0)))
        (λ k lt out. (grind arith, items k (grind (arith, full.0)), flags k (grind (arith, full.0))))
        (λ j lt. ⊎_elim (λ h. let f = in_filled cs from end (from + j) full (omega arith) (omega arith) in let on = there (to + j) (omega arith) (omega arith) in let same_item = moved j h in
        let out = out_emptied (to + n) end (cells_of s.items s.filled) (to + j) (inl (omega arith)) in let here = at_row s.items s.filled (to + j) d (omega arith) (omega (arith, long, full.1)) in
        cc (out, here, on, same_item, (at_item r cs (from + j) f.0 is f.1).2 d, f.1, get_or_append_left run (empties (from - to)) None j (omega arith), at_range cs from end j h))
        (λ h. in_emptied (to + n) end (cells_of s.items s.filled) (to + j) (omega arith) (omega arith)
        ∙ sym (get_or-append_right run (empties (from - to)) n j None n_long h ∙ get_or-replicate (from - to) (j - n) None None (omega (arith, full.0)))) (cases_lt j n))

    pub gone : (from end : ℕ) → AreFilled cs from end → s.items ≡ r.items → ((k : ℕ) → (k < from) ⊎ (end ≤ k) → get_or s.filled k false ≡ get_or r.filled k false)
        → emptied from end (cells_of s.items s.filled) ≡ with_range cs from end (empties (end - from))
    gone from end full as_before flags = ranged from end from end (empties (end - from)) full.0 full.1 (length-replicate {A = Option X} (end - from) None) (λ k lt out. (out, ap (λ l. get_or l k d) as_before, flags k out))
        (λ j lt. in_emptied from end (cells_of s.items s.filled) (from + j) (omega arith) (omega arith) ∙ sym (get_or-replicate (end - from) j None None lt))

    -- the cells after the items of `run` were moved to those from `to` on
    pub filled_in : (to n : ℕ) (run : List X) → length run ≡ n → to + n ≤ length cs → s.items ≡ take to r.items ++ run ++ drop (to + n) r.items → ((k : ℕ) → to ≤ k → k < to + n → get_or s.filled k false ≡ true)
        → ((k : ℕ) → (k < to) ⊎ (to + n ≤ k) → get_or s.filled k false ≡ get_or r.filled k false) → emptied 0 0 (cells_of s.items s.filled) ≡ with_range cs to (to + n) (map Some run)
    filled_in to n run run_long in_row as_before there flags =
        ranged 0 0 to (to + n) (map Some run) (omega arith) in_row (simp length-map (omega arith))
        (λ k lt out. (inr (omega arith), rw as_before (grind (arith, common_steps, long, r.ok.0, s.ok.0)), flags k out))
        (λ j lt. let item : get_or s.items (to + j) d ≡ get_or run j d = rw as_before (grind (arith, common_steps, long, r.ok.0, s.ok.0)) in let on = there (to + j) (omega arith) (omega arith) in
        cc (out_emptied 0 0 (cells_of s.items s.filled) (to + j) (inr (omega arith)), at_row s.items s.filled (to + j) d (omega arith) (omega (arith, long)), item, on, get_or-map Some run j d None (omega arith)))

  -- the items of a filled range of cells are those of the same range of slots
  pub run_items : (r : Slots X) (cs : List (Option X)) (d : X) (from end : ℕ) → cells_of r.items r.filled ≡ cs → AreFilled cs from end
      → (length (slice_range r.items from end) ≡ end - from) × (slice_range cs from end ≡ map Some (slice_range r.items from end))
  run_items r cs d from end is full =
      let xs = r.items in let run = slice_range xs from end in let count : length cs ≡ length xs = ap length (sym is) ∙ cells_count xs r.filled (sym r.ok.1 ∙ r.ok.0) in
      let long : length run ≡ end - from = simp (length-take, length-drop) (omega (arith, full.0, full.1)) in let long_cs = range_long cs from end full.0 full.1 in (
        long,
        ext_get_or None (slice_range cs from end) (map Some run) (simp length-map (omega arith))
            (λ j lt. let f = in_filled cs from end (from + j) full (omega arith) (omega arith) in let at = at_item r cs (from + j) f.0 is f.1 in
            cc (at_range cs from end j (omega arith), f.1, at.2 d, get_or-map Some run j d None (omega arith), get_or-take (end - from) (drop from xs) j d (omega arith), get_or-drop from xs j d)),
      )

  pub stays_down : (cs : List (Option X)) (from end to : ℕ) → from ≡ end → AreEmpty cs to from → cs ≡ moved_down cs from end to
  stays_down cs from end to e gap = let none : end - from ≡ 0 = omega arith in
      let whole : cs ≡ with_range cs to from (slice_range cs to from) = rw (← drop_split cs to from gap.0, take-append-drop) in whole ∙ rw (gap.2, none, e)

  pub one_filled : (cs : List (Option X)) (i : ℕ) → IsFilled cs i → AreFilled cs i (i + 1)
  one_filled cs i f = let lt = filled_within cs i f in let one : i + 1 - i ≡ 1 = omega arith in (omega arith, omega arith, (f.0 ∷ [], rw (one, drop-cons cs i None lt, f.1)))
