-- A list of pairs in two columns, before and after a call on a column.
use Rattle.starlark_hash.proofs.Common.{◌≡◌, ℕ, ◌<◌, List, length, zip, slice_get, slice_set, Option, Some, refl, sym, ap, ◌∙◌, arith}
use lib.ListN.{length-set}
use Rattle.starlark_columns.specs.Block.{IsBlockOf, IsSpotOf}
use Rattle.starlark_columns.specs.Lend.{with_cells}
use Rattle.starlark_vec2.specs.declared.vec2.Vec2.TheInside.{Inside}
use Rattle.starlark_columns.specs.Cells.{items_of}
use Rattle.starlark_columns.specs.Front.{with_items}
use Rattle.starlark_columns.proofs.ItemsAtFront.{written_front, written_items, written_cells, set_front, all_written}
use Rattle.starlark_vec2.specs.Columns.{AreColumns}
use Rattle.starlark_vec2.specs.PairList.{PairList, pair_list, with_pairs, firsts_of}
use Rattle.starlark_vec2.specs.Lend.{with_pair, set_firsts, set_first_at}
use Rattle.std.proofs.lemmas.Slice.Zip.{length-zip, firsts-zip, seconds-zip}
use Rattle.starlark_vec2.proofs.Pairs.{slice_get-zip, zip-set_first, zip-set}

module _ {A B : Type 0} where
  -- the invariant of the fields
  abbrev Holds : Inside A B → Type 0
  Holds d = AreColumns d.firsts.cells d.seconds.cells d.len × IsBlockOf d.block d.seconds d.firsts × IsSpotOf d.spot d.block

  -- the invariant after both columns were written, if they have the same number of cells and their items are at the
  -- front
  pub relaid : (d : Inside A B) → Holds d → (cs : List (Option A)) (ds : List (Option B)) → AreColumns cs ds d.len → length cs ≡ length d.firsts.cells → length ds ≡ length d.seconds.cells
      → Holds (record d { firsts = with_cells d.firsts cs; seconds = with_cells d.seconds ds })
  relaid d k cs ds at long long' = (at, (k.1.0, k.1.1, k.1.2 ∙ sym long', k.1.3 ∙ sym long), k.2)

  -- the list of pairs of these columns
  abbrev pub seen : List (Option A) → List (Option B) → PairList A B
  seen cs ds = pair_list (zip (items_of cs) (items_of ds)) (length cs)

  module _ (cs : List (Option A)) (ds : List (Option B)) (n : ℕ) (at : AreColumns cs ds n) where
    pub even_items : length (items_of cs) ≡ length (items_of ds)
    even_items = at.firsts_front.count ∙ sym at.seconds_front.count

    -- both columns after a `&mut` to all items of one has ended
    pub firsts_written : (ws : List A) → AreColumns (with_items cs ws) ds n
    firsts_written ws = record { firsts_front = written_front cs n at.firsts_front ws; seconds_front = at.seconds_front; even = at.even ∙ sym (written_cells cs n at.firsts_front ws) }

    pub both_written : (ws : List A) (us : List B) → AreColumns (with_items cs ws) (with_items ds us) n
    both_written ws us = record { firsts_front = written_front cs n at.firsts_front ws; seconds_front = written_front ds n at.seconds_front us; even = written_cells ds n at.seconds_front us ∙ at.even ∙ sym (written_cells cs n at.firsts_front ws) }

    module _ (v : PairList A B) (is : seen cs ds ≡ v) where
      pub firsts_end : (ws : List A) → seen (with_items cs ws) ds ≡ with_pairs v (set_firsts v.pairs ws)
      firsts_end ws = rw (← is) (
          let long : length (zip (items_of cs) (items_of ds)) ≡ length (items_of cs) = omega (arith, length-zip (items_of cs) (items_of ds), even_items) in
          cc (written_items cs n at.firsts_front ws, written_cells cs n at.firsts_front ws, firsts-zip (items_of cs) (items_of ds) (sym even_items), seconds-zip (items_of cs) (items_of ds) (sym even_items)))

      pub firsts_are : (xs : List A) → xs ≡ items_of cs → xs ≡ firsts_of v.pairs
      firsts_are xs e = cc (firsts-zip (items_of cs) (items_of ds) (sym even_items))

      -- a relation between the items of both columns before and after they were written holds of the pairs
      pub both_moved : (xs us : List A) (ys ws : List B) → xs ≡ items_of cs → ys ≡ items_of ds → length us ≡ length xs → length ws ≡ length ys
          → (P : List (A × B) → List (A × B) → Type 0) → P (zip xs ys) (zip us ws) → P v.pairs (zip (items_of (with_items cs us)) (items_of (with_items ds ws)))
      both_moved xs us ys ws e f p q P h = rw (all_written cs n at.firsts_front us (p ∙ ap length e), all_written ds n at.seconds_front ws (q ∙ ap length f), ← is, ← e, ← f) h

      pub len_is : length v.pairs ≡ n
      len_is = grind (arith, length-zip (items_of cs) (items_of ds), even_items, at.firsts_front.count, is)

      pub pair_is : (i : ℕ) (x : A) (y : B) → slice_get (items_of cs) i ≡ Some x → slice_get (items_of ds) i ≡ Some y → slice_get v.pairs i ≡ Some (x, y)
      pair_is i x y e f = rw (← is, slice_get-zip (items_of cs) (items_of ds) i, e, f) refl

      module _ (i : ℕ) (lt : i < length v.pairs) where
        pub in_columns : i < n
        in_columns = omega (arith, lt, len_is)

        -- both columns after a `&mut` to one item has ended
        pub first_set : (x : A) → AreColumns (slice_set cs i (Some x)) ds n
        first_set x = record { firsts_front = (set_front cs n at.firsts_front i in_columns x).0; seconds_front = at.seconds_front; even = at.even ∙ sym (length-set cs i (Some x)) }

        pub first_end : (x : A) → seen (slice_set cs i (Some x)) ds ≡ with_pairs v (set_first_at v.pairs i x)
        first_end x = rw (← is) (cc ((set_front cs n at.firsts_front i in_columns x).1, length-set cs i (Some x), zip-set_first (items_of cs) (items_of ds) i x))

        pub both_set : (x : A) (y : B) → AreColumns (slice_set cs i (Some x)) (slice_set ds i (Some y)) n
        both_set x y = record { firsts_front = (first_set x).firsts_front; seconds_front = (set_front ds n at.seconds_front i in_columns y).0; even = length-set ds i (Some y) ∙ at.even ∙ sym (length-set cs i (Some x)) }

        pub both_end : (x : A) (y : B) → seen (slice_set cs i (Some x)) (slice_set ds i (Some y)) ≡ with_pair v i (x, y)
        both_end x y = rw (← is) (
            cc ((set_front cs n at.firsts_front i in_columns x).1, (set_front ds n at.seconds_front i in_columns y).1, length-set cs i (Some x), zip-set (items_of cs) (items_of ds) i x y))

        pub first_is : (x : A) → slice_get (items_of cs) i ≡ Some x → slice_get (firsts_of v.pairs) i ≡ Some x
        first_is x e = ap (λ l. slice_get l i) (sym (firsts_are (items_of cs) refl)) ∙ e

  -- the invariant after `&mut`s to all items of both columns have ended
  pub both_relaid : (d : Inside A B) → Holds d → (ws : List A) (us : List B) → Holds (record d { firsts = with_cells d.firsts (with_items d.firsts.cells ws); seconds = with_cells d.seconds (with_items d.seconds.cells us) })
  both_relaid d k ws us = relaid d k _ _ (both_written _ _ _ k.0 ws us) (written_cells _ _ k.0.firsts_front ws) (written_cells _ _ k.0.seconds_front us)
