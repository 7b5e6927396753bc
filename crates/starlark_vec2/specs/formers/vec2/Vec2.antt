-- `Vec2` as a type constructor in its first parts, so that a recursive type may use it.
use Rattle.std.specs.Prelude.{◌≡◌, ℕ, max, true, false, List, [], ◌∷◌, map, length, zip, Option, Some, None, is_some}
use mathlib.Core.Path.{refl, sym, ap, ◌∙◌}
use denote.RawPtr.{coded_ptr}
use mathlib.Core.Former.{Former, Count, Row, one_more, this, const, pair, list, list_count, list_put, via, children}
use native.Mathlib.Nat.{ℕ_set}
use native.Mathlib.Bridge.{le_prop}
use native.Mathlib.Omega.{arith}
use lib.ListN.{length-map}
use base.Stored.{Coded-set, code_map, coded×, coded_bool, coded_list, coded_ℕ, gcons}
use denote.RattleType.{RattleType}
use denote.HoleLaws.{Alike}
use denote.HolePlaces.{Recodes, struct_places, laid}
use denote.Hole.Carrier.{listed}
use denote.Hole.Fix.{over}
use denote.Param.Nested.{deepest}
use denote.Param.Weighed.{Weighed, most, max_none, List-puts, w_pair, w_const}
use denote.Model.Placed.{held, view_places_where}
use Rattle.std.specs.declared.alloc.Global.{Global}
use Rattle.std.specs.contracts.alloc.Global as heap
use Rattle.std.specs.contracts.impls.GlobalAllocator.TheImpl.{ghosts}
use Rattle.starlark_columns.specs.Cells.{items_of}
use Rattle.starlark_columns.specs.Front.{IsFront}
use Rattle.starlark_columns.specs.formers.row.Row.{cell, mapped_cell, mapped}
use Rattle.starlark_columns.specs.declared.row.Row.{Row as Cells}
use Rattle.starlark_columns.specs.declared.block.Spot.{Spot}
use Rattle.starlark_columns.specs.formers.block.PairClaim as claim_is
use Rattle.starlark_columns.specs.formers.row.Row as row_is
use Rattle.starlark_vec2.specs.declared.vec2.Vec2.TheInside.{Inside}
use Rattle.starlark_vec2.specs.declared.vec2.Vec2.TheView.{view, invariant}
use Rattle.starlark_vec2.specs.contracts.vec2.Vec2 as vec2
use Rattle.starlark_vec2.specs.contracts.vec2.Vec2.TheInside as inside
use Rattle.starlark_vec2.specs.PairList.{PairList, pair_list, firsts_of}

-- pairs of a value of g and a second part
abbrev pub entry : Former {0} → Type 0 → Former {0}
entry g B = pair g (const B)

-- the pair, with h applied to its first part
abbrev pub on_first : {X Y B : Type 0} → (X → Y) → X × B → Y × B
on_first h p = (h p.0, p.1)

abbrev pub the_former : Former {0} → Type 0 → Former {0}
the_former g B = via (pair (list (entry g B)) (const ℕ)) (λ X. PairList (g.Of X) B) (λ X v. (v.pairs, v.capacity)) (λ X v. pair_list v.0 v.1) (λ X v. refl) (λ X v. refl)

most_firsts : {X B : Type 0} (f : X → ℕ) (ps : List (X × B)) → most (λ p. max (f p.0) 0) ps ≡ most f (firsts_of ps)
most_firsts f [] = refl
most_firsts f (p ∷ ps) = λ i. max (max_none (f p.0) i) (most_firsts f ps i)

pub pairs_puts : {g : Former {0}} (w : Weighed g) (B X : Type 0) (μ : X → ℕ) (ps : List (g.Of X × B)) (n : Count) (t : Row X n)
    → deepest μ (list_count (entry g B) (map ((entry g B).shape X) ps) n) (list_put (entry g B) X ps n t) ≡ max (most (w.weight X μ) (firsts_of ps)) (deepest μ n t)
pairs_puts w B X μ ps n t = List-puts (w_pair w (w_const B)) X μ ps n t ∙ ap (λ a. max a (deepest μ n t)) (most_firsts (w.weight X μ) ps)

abbrev pub the_weighed : {g : Former {0}} → Weighed g → (B : Type 0) → Weighed (the_former g B)
the_weighed w B = record { weight = λ X μ v. most (w.weight X μ) (firsts_of v.pairs); puts = λ X μ v. pairs_puts w B X μ v.pairs }

pub the_empty : (B : Type 0) → B → PairList ⊥ B
the_empty B b = pair_list [] 0

abbrev pub the_items : (B X : Type 0) → PairList X B → List X
the_items B X v = firsts_of v.pairs

firsts_listed : (B X : Type 0) (ps : List (X × B)) → listed _ (children (list (entry this B)) X ps) ≡ firsts_of ps
firsts_listed B X [] = refl
firsts_listed B X (p ∷ ps) = ap (λ l. p.0 ∷ l) (firsts_listed B X ps)

pub the_items_listed : (B X : Type 0) (v : PairList X B) → listed _ (children (the_former this B) X v) ≡ the_items B X v
the_items_listed B X v = firsts_listed B X v.pairs

abbrev pub fields : Type 0 → Former {0}
fields B = via (pair (row_is.the_former this) (const (Cells B × ℕ × Spot B × Global × claim_is.Parts Global))) (λ X. Inside X B) (λ X a. (a.firsts, (a.seconds, a.len, a.spot, a.alloc, claim_is.parts_of B X Global a.block)))
    (λ X v. record { firsts = v.0; seconds = v.1.0; len = v.1.1; spot = v.1.2; alloc = v.1.3; block = claim_is.of_parts B X Global v.1.4 }) (λ X a. refl) (λ X v. refl)

pub zip-map : {X Y B : Type 0} (h : X → Y) (xs : List X) (bs : List B) → zip (map h xs) bs ≡ map (on_first h) (zip xs bs)
zip-map h (x ∷ xs) (b ∷ bs) = ap (λ l. (h x, b) ∷ l) (zip-map h xs bs)
zip-map h xs bs = refl

pub zip-held : (B X : Type 0) (xs : List X) (bs : List B) → length xs ≡ length bs → held (list (entry this B)) X (zip xs bs) ≡ held (list this) X xs
zip-held B X [] bs e = refl
zip-held B X (x ∷ xs) [] e = absurd (omega arith)
zip-held B X (x ∷ xs) (b ∷ bs) e = λ i. (one_more (zip-held B X xs bs (omega arith) i).0, (x, (zip-held B X xs bs (omega arith) i).1))

-- ---- the items of cells, and their shape, under a map of the items
module _ {X Y : Type 0} (h : X → Y) where
  pub items_of-map : (cs : List (Option X)) → items_of (mapped h cs) ≡ map h (items_of cs)
  items_of-map [] = refl
  items_of-map (None ∷ cs) = items_of-map cs
  items_of-map (Some x ∷ cs) = ap (λ l. h x ∷ l) (items_of-map cs)

  shape-map : (cs : List (Option X)) → map is_some (mapped h cs) ≡ map is_some cs
  shape-map [] = refl
  shape-map (None ∷ cs) = ap (λ l. false ∷ l) (shape-map cs)
  shape-map (Some x ∷ cs) = ap (λ l. true ∷ l) (shape-map cs)

  pub items-count : (cs : List (Option X)) → length (items_of (mapped h cs)) ≡ length (items_of cs)
  items-count cs = ap length (items_of-map cs) ∙ length-map (items_of cs) h

  cells-count : (cs : List (Option X)) → length (mapped h cs) ≡ length cs
  cells-count cs = length-map cs (mapped_cell h)

  front_to : (cs : List (Option X)) (n : ℕ) → IsFront cs n → IsFront (mapped h cs) n
  front_to cs n s = record { count = items-count cs ∙ s.count; form = rw (shape-map cs, cells-count cs) s.form; within = rw (cells-count cs) s.within }

  front_from : (cs : List (Option X)) (n : ℕ) → IsFront (mapped h cs) n → IsFront cs n
  front_from cs n s = record { count = sym (items-count cs) ∙ s.count; form = rw (shape-map cs, cells-count cs) at s.form; within = rw (cells-count cs) at s.within }

pub items_of-held : (X : Type 0) (cs : List (Option X)) → held (list this) X (items_of cs) ≡ held (list (cell this)) X cs
items_of-held X [] = refl
items_of-held X (None ∷ cs) = items_of-held X cs
items_of-held X (Some x ∷ cs) = λ i. (one_more (items_of-held X cs i).0, (x, (items_of-held X cs i).1))

IsFront-prop : {X : Type 0} (cs : List (Option X)) (n : ℕ) → IsProp (IsFront cs n)
IsFront-prop cs n p q = λ i. record { count = ℕ_set _ _ p.count q.count i; form = Coded-set (coded_list coded_bool) _ _ p.form q.form i; within = le_prop p.within q.within i }

invariant-prop : (B X : Type 0) (u : Inside X B) → IsProp (invariant X B u)
invariant-prop B X u p q = λ i. (
  record { firsts_front = IsFront-prop _ _ p.0.firsts_front q.0.firsts_front i; seconds_front = IsFront-prop _ _ p.0.seconds_front q.0.seconds_front i; even = ℕ_set _ _ p.0.even q.0.even i },
  (Coded-set coded_ptr _ _ p.1.0 q.1.0 i, Coded-set coded_ptr _ _ p.1.1 q.1.1 i, ℕ_set _ _ p.1.2 q.1.2 i, ℕ_set _ _ p.1.3 q.1.3 i),
  (ℕ_set _ _ p.2.0 q.2.0 i, Coded-set coded_ptr _ _ p.2.1 q.2.1 i),
)

module _ (B : RattleType) (R R' : RattleType) (h : R.Denot → R'.Denot) where
  pub the_places : Alike R R' h → Alike (vec2.the_row R B) (vec2.the_row R' B) ((the_former this B.Denot).map R.Denot R'.Denot h)
  the_places a = view_places_where (fields B.Denot) (the_former this B.Denot) (λ X. view X B.Denot)
      (λ X Y k u. ap (λ xs. pair_list (zip xs (items_of u.seconds.cells)) (length (mapped k u.firsts.cells))) (items_of-map k u.firsts.cells)
      ∙ (λ i. pair_list (zip-map k (items_of u.firsts.cells) (items_of u.seconds.cells) i) (cells-count k u.firsts.cells i)))
      (λ X u. length (items_of u.firsts.cells) ≡ length (items_of u.seconds.cells)) (λ X Y k u e. sym (items-count k u.firsts.cells) ∙ e)
      (λ X u e. zip-held B.Denot X (items_of u.firsts.cells) (items_of u.seconds.cells) e ∙ items_of-held X u.firsts.cells)
      R.Denot R'.Denot h (vec2.the_row R B).coded (vec2.the_row R' B).coded
      (invariant R.Denot B.Denot) (invariant R'.Denot B.Denot) (invariant-prop B.Denot R.Denot) (invariant-prop B.Denot R'.Denot)
      (λ u s. (record { firsts_front = front_to h u.firsts.cells u.len s.0.firsts_front; seconds_front = s.0.seconds_front; even = s.0.even ∙ sym (cells-count h u.firsts.cells) }, (s.1.0, s.1.1, s.1.2, s.1.3 ∙ sym (cells-count h u.firsts.cells)), s.2))
      (λ u s. (record { firsts_front = front_from h u.firsts.cells u.len s.0.firsts_front; seconds_front = s.0.seconds_front; even = s.0.even ∙ cells-count h u.firsts.cells }, (s.1.0, s.1.1, s.1.2, s.1.3 ∙ cells-count h u.firsts.cells), s.2))
      (λ u s. s.0.firsts_front.count ∙ sym s.0.seconds_front.count)
      (over (inside.the_row R B)) (over (inside.the_row R' B))
      (struct_places (inside.the_type R B) (inside.the_type R' B) ((row_is.the_former this).map R.Denot R'.Denot h, (λ n. n, (λ n. n, (λ n. n, (λ n. n, ((claim_is.the_former this B.Denot Global).map R.Denot R'.Denot h, tt)))))) _ (λ d. refl) refl
      (laid _ _ _ (row_is.the_places R R' h a), ((refl, (λ n. refl, λ n. refl)), ((refl, (λ n. refl, λ n. refl)), ((refl, (λ n. refl, λ n. refl)), ((refl, (λ n. refl, λ n. refl)), (laid _ _ _ (claim_is.the_places B heap.the_row ghosts R R' h a), tt)))))))

  pub the_codes_placed : Recodes R R' h → Recodes (vec2.the_row R B) (vec2.the_row R' B) ((the_former this B.Denot).map R.Denot R'.Denot h)
  the_codes_placed e v = ap (λ x. gcons x (coded_ℕ.code v.capacity))
      (sym (code_map (coded× R.coded B.coded).code (coded× R'.coded B.coded).code (on_first h) (λ x i. gcons (sym (e x.0) i) (B.coded.code x.1)) v.pairs))
