-- Rows whose items are in the first cells, before and after each step. Re-exports the definitions about them.
use Rattle.std.proofs.Common.{◌≡◌, ℕ, zero, suc, ◌+◌, ◌-◌, ◌<◌, ◌≤◌, true, false, List, [], ◌∷◌, ◌++◌, map, length, take, drop, replicate, get_or, slice_set, Option, Some, None, refl, sym, ap, ◌∙◌, arith, append_assoc, is_some, slice_range, slice_get, length-set}
use Rattle.std.proofs.lemmas.List.{length-map, length-replicate, length-append, length-take, length-drop, nil_from_length, take_at, drop_at, set_at, get_or_at, map-append, map-set, set-append_left, replicate-append-replicate, drop-replicate, take-take, drop-set-lt}
use Rattle.std.proofs.lemmas.Grind.{common_steps}
use Rattle.std.specs.List.{remove, refill, length_refill}
pub use Rattle.starlark_columns.specs.Cells.{empties, items_of, IsFilled, AreFilled, AreEmpty, with_range, moved_down}
pub use Rattle.starlark_columns.specs.Front.{IsFront, with_items}
use Rattle.starlark_columns.specs.Slots.{emptied}

module _ {X : Type 0} where
  -- a row of the items xs and m empty cells
  abbrev pub row : List X → ℕ → List (Option X)
  row xs m = map Some xs ++ empties m

  pub items_row : (xs : List X) (m : ℕ) → items_of (row xs m) ≡ xs
  items_row [] zero = refl
  items_row [] (suc m) = items_row [] m
  items_row (x ∷ xs) m = rw (items_row xs m)

  pub shape_row : (xs : List X) (m : ℕ) → map is_some (row xs m) ≡ replicate (length xs) true ++ replicate m false
  shape_row [] zero = refl
  shape_row [] (suc m) = rw (shape_row [] m)
  shape_row (x ∷ xs) m = rw (shape_row xs m)

  is_row : (cs : List (Option X)) (xs : List X) (n m : ℕ) → cs ≡ row xs m → length xs ≡ n → IsFront cs n × (items_of cs ≡ xs)
  is_row cs xs n m e long = let items : items_of cs ≡ xs = rw e (items_row xs m) in let count : length cs ≡ n + m = rw e (simp (length-append, length-map, length-replicate) (omega arith)) in let behind : length cs - n ≡ m = omega arith in
      (record { count = rw items long; form = rw (behind, e, ← long) (shape_row xs m); within = omega arith }, items)

  none_is : (m : ℕ) (cs : List (Option X)) → map is_some cs ≡ replicate m false → cs ≡ empties m
  none_is zero [] e = refl
  none_is (suc m) (None ∷ cs) e = rw (← none_is m cs (cc e))
  none_is m cs e = absurd (cc e)

  pub shape_is : (cs : List (Option X)) (n m : ℕ) → map is_some cs ≡ replicate n true ++ replicate m false → (xs : List X) × (cs ≡ row xs m) × (length xs ≡ n)
  shape_is cs zero m e = ([], none_is m cs e, refl)
  shape_is (Some x ∷ cs) (suc n) m e = let rest = shape_is cs n m (cc e) in (x ∷ rest.0, ap (λ l. Some x ∷ l) rest.1, ap suc rest.2)
  shape_is cs n m e = absurd (cc e)

  pub split : (xs : List X) (i : ℕ) → i < length xs → (x : X) × (xs ≡ take i xs ++ x ∷ drop (suc i) xs) × (slice_get xs i ≡ Some x)
  split [] i lt = absurd (omega (arith, lt))
  split (x ∷ xs) zero lt = (x, refl, refl)
  split (x ∷ xs) (suc i) lt = let r = split xs i (omega (arith, lt)) in (r.0, ap (λ l. x ∷ l) r.1, r.2)

  middle : (l ps qs es : List (Option X)) (i n : ℕ) → l ≡ ps ++ (qs ++ es) → length ps ≡ i → i + length qs ≡ n → slice_range l i n ≡ qs
  middle l ps qs es i n e long all = rw (e, drop_at ps (qs ++ es) i long) (take_at qs es (n - i) (omega arith))

  pub none_at_front : (cs : List (Option X)) → IsFront cs 0 → cs ≡ empties (length cs)
  none_at_front cs front = let e = none_is (length cs - 0) cs front.form in e ∙ ap empties (sym (ap length e ∙ length-replicate (length cs - 0) None))

  module _ (cs : List (Option X)) (n : ℕ) (front : IsFront cs n) where
    -- the number of cells behind the items
    abbrev left : ℕ
    left = length cs - n

    pub row_is : cs ≡ row (items_of cs) left
    row_is = let r = shape_is cs n left front.form in cc (r.1, items_row r.0 left)

    long : length (map Some (items_of cs)) ≡ n
    long = length-map (items_of cs) Some ∙ front.count

    front_range : slice_range cs 0 n ≡ map Some (items_of cs)
    front_range = middle cs [] (map Some (items_of cs)) (empties left) 0 n row_is refl (omega (arith, long))

    front_rest : drop n cs ≡ empties left
    front_rest = ap (drop n) row_is ∙ drop_at (map Some (items_of cs)) (empties left) n long

    pub front_full : AreFilled cs 0 n
    front_full = (omega arith, front.within, (items_of cs, front_range))

    pub front_items : (xs : List X) → slice_range cs 0 n ≡ map Some xs → xs ≡ items_of cs
    front_items xs e = cc (items_row xs left, row_is, front_range)

    pub front_free : get_or cs n None ≡ None
    front_free = grind (arith, common_steps, row_is, long)

    pub front_pushed : (x : X) → n < length cs → IsFront (slice_set cs n (Some x)) (n + 1) × (items_of (slice_set cs n (Some x)) ≡ items_of cs ++ x ∷ [])
    front_pushed x lt = let k = left - 1 in let more : left ≡ suc k = omega arith in
        is_row (slice_set cs n (Some x)) (items_of cs ++ x ∷ []) (n + 1) k
        (ap (λ l. slice_set l n (Some x)) (row_is ∙ ap (row (items_of cs)) more) ∙ set_at (map Some (items_of cs)) None (empties k) (Some x) n long ∙ simp (map-append, append_assoc))
        (omega (arith, length-append (items_of cs) (x ∷ []), front.count))

    written : (ws : List X) → IsFront (with_items cs ws) n × (items_of (with_items cs ws) ≡ refill (length (items_of cs)) (items_of cs) ws)
    written ws = let new = refill (length (items_of cs)) (items_of cs) ws in
        is_row (with_items cs ws) new n (length cs - length new) refl (sym (length_refill (length (items_of cs)) (items_of cs) ws refl) ∙ front.count)

    -- the row after a `&mut` to all items has ended
    pub written_front : (ws : List X) → IsFront (with_items cs ws) n
    written_front ws = (written ws).0

    pub written_items : (ws : List X) → items_of (with_items cs ws) ≡ refill (length (items_of cs)) (items_of cs) ws
    written_items ws = (written ws).1

    -- the items that were written, if they are as many as there were
    pub all_written : (ws : List X) → length ws ≡ length (items_of cs) → items_of (with_items cs ws) ≡ ws
    all_written ws e = written_items ws ∙ take_at ws (drop (length ws) (items_of cs)) (length (items_of cs)) e

    pub written_cells : (ws : List X) → length (with_items cs ws) ≡ length cs
    written_cells ws = let new = refill (length (items_of cs)) (items_of cs) ws in
        simp (length-append, length-map, length-replicate) (omega (arith, length_refill (length (items_of cs)) (items_of cs) ws refl, front.within, front.count))

    -- the row after all items were moved away
    pub front_gone : (ds : List (Option X)) → ds ≡ with_range cs 0 n (empties (n - 0)) → IsFront ds 0
    front_gone ds e = (is_row ds [] 0 (n - 0 + left) (e ∙ ap (λ l. empties (n - 0) ++ l) front_rest ∙ replicate-append-replicate (n - 0) left None) refl).0

    pub front_come : (ds to : List (Option X)) (xs : List X) → to ≡ empties (length to) → n ≤ length to → slice_range cs 0 n ≡ map Some xs → ds ≡ with_range to 0 (0 + n) (map Some xs) → IsFront ds n × (items_of ds ≡ items_of cs)
    front_come ds to xs none fits run e = let k = 0 + n in let behind : drop k to ≡ empties (length to - k) = ap (drop k) none ∙ drop-replicate k (length to) None in
        is_row ds (items_of cs) n (length to - k) (e ∙ (λ j. (sym run ∙ front_range) j ++ behind j)) front.count

    module _ (i : ℕ) (lt : i < n) where
      abbrev before : List X
      before = take i (items_of cs)

      abbrev after : List X
      after = drop (suc i) (items_of cs)

      the : (x : X) × (items_of cs ≡ before ++ x ∷ after) × (slice_get (items_of cs) i ≡ Some x) × (length (map Some before) ≡ i) × (i + suc (length (map Some after)) ≡ n)
      the = let s = split (items_of cs) i (omega (arith, front.count)) in
          (s.0, s.1, s.2, omega (arith, length-map before Some, length-take i (items_of cs), front.count), omega (arith, length-map after Some, length-drop (suc i) (items_of cs), front.count))

      cut : cs ≡ map Some before ++ Some the.0 ∷ row after left
      cut = row_is ∙ ap (λ l. row l left) the.1 ∙ simp (map-append, append_assoc)

      at : get_or cs i None ≡ Some the.0
      at = ap (λ l. get_or l i None) cut ∙ get_or_at (map Some before) (Some the.0) (row after left) None i the.3

      put : slice_set cs i None ≡ map Some before ++ None ∷ row after left
      put = ap (λ l. slice_set l i None) cut ∙ set_at (map Some before) (Some the.0) (row after left) None i the.3

      pub front_filled : IsFilled cs i
      front_filled = (the.0, at)

      pub front_taken : (x : X) → get_or cs i None ≡ Some x → slice_get (items_of cs) i ≡ Some x
      front_taken x e = cc (the.2, at)

      -- the row after a `&mut` to the item at i has ended
      pub set_front : (w : X) → IsFront (slice_set cs i (Some w)) n × (items_of (slice_set cs i (Some w)) ≡ slice_set (items_of cs) i w)
      set_front w = is_row (slice_set cs i (Some w)) (slice_set (items_of cs) i w) n left
          (ap (λ l. slice_set l i (Some w)) row_is ∙ set-append_left (map Some (items_of cs)) (empties left) i (Some w) (omega (arith, long)) ∙ ap (λ l. l ++ empties left) (sym (map-set Some (items_of cs) i w)))
          (length-set (items_of cs) i w ∙ front.count)

      module _ (ds : List (Option X)) (e : ds ≡ slice_set cs i None) where
        -- the items behind the removed one
        rest : slice_range ds (i + 1) n ≡ map Some after
        rest = middle ds (map Some before ++ None ∷ []) (map Some after) (empties left) (i + 1) n (e ∙ put ∙ simp append_assoc)
            (omega (arith, length-append (map Some before) (None ∷ []), the.3)) (omega (arith, the.4))

        pub rest_filled : AreFilled ds (i + 1) n
        rest_filled = (omega arith, omega (arith, front.within, ap length e, length-set cs i None), (after, rest))

        pub gap_empty : AreEmpty ds i (i + 1)
        gap_empty = let one : i + 1 - i ≡ 1 = omega arith in
            (omega arith, omega (arith, front.within, ap length e, length-set cs i None), cc (one, middle ds (map Some before) (None ∷ []) (row after left) i (i + 1) (e ∙ put) the.3 refl))

        pub front_removed : (es : List (Option X)) → es ≡ moved_down ds (i + 1) n i → IsFront es (n - 1) × (items_of es ≡ remove (items_of cs) i)
        front_removed es f = let one : i + 1 - i ≡ 1 = omega arith in let head : take i ds ≡ map Some before = ap (take i) (e ∙ put) ∙ take_at (map Some before) (None ∷ row after left) i the.3 in
            let tail : drop n ds ≡ empties left = ap (drop n) e ∙ drop-set-lt n cs i None lt ∙ front_rest in
            is_row es (before ++ after) (n - 1) (suc left) (f ∙ simp (head, rest, tail, one, map-append, append_assoc))
            (omega (arith, length-append before after, length-map before Some, length-map after Some, the.3, the.4))

        -- the row after its last item was removed
        pub last_taken : (x : X) → i + 1 ≡ n → get_or cs i None ≡ Some x → IsFront ds i × (items_of cs ≡ items_of ds ++ x ∷ [])
        last_taken x last f = let none : after ≡ [] = nil_from_length after (omega (arith, the.4, length-map after Some)) in
            let is = is_row ds before i (suc left) (e ∙ put ∙ ap (λ l. map Some before ++ None ∷ row l left) none) (omega (arith, the.3, length-map before Some)) in
            (is.0, cc (the.1, at, none, is.1))

  -- the first n - 1 items, from the first n
  pub one_fewer : (ys xs : List X) (x : X) (n : ℕ) → 0 < n → take n ys ≡ xs ++ x ∷ [] → length xs ≡ n - 1 → xs ≡ take (n - 1) ys
  one_fewer ys xs x n some e long = grind (arith, take_at xs (x ∷ []) (n - 1), take-take (n - 1) n ys)

  pub front_empties : (cs : List (Option X)) (n : ℕ) → cs ≡ empties n → IsFront cs 0 × (items_of cs ≡ []) × (length cs ≡ n)
  front_empties cs n e = let front = is_row cs [] 0 n e refl in (front.0, front.1, ap length e ∙ length-replicate n None)

  -- ---- rows whose cells are all full
  pub all_emptied : (cs : List (Option X)) (n : ℕ) → n ≡ length cs → emptied 0 n cs ≡ empties n
  all_emptied (c ∷ cs) (suc n) e = rw (all_emptied cs n (omega arith))
  all_emptied cs n e = grind arith
