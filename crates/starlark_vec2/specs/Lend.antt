-- The value of a `Vec2` once a reference into it has ended.
use Rattle.std.specs.Prelude.{ℕ, zero, suc, List, [], ◌∷◌, Option, zip, length, slice_set}
use Rattle.std.specs.List.{refill}
use Rattle.std.specs.Borrow.{Fml, RattleType, MutBor, GName, Array, Lends, LendsBoth, LendsBothIf, follows}
use Rattle.starlark_vec2.specs.PairList.{PairList, with_pairs, firsts_of, seconds_of}
use Rattle.starlark_vec2.specs.Loan.{Pair}
use Rattle.starlark_vec2.specs.contracts.vec2.Vec2.{the_row}

module _ {A B : Type 0} where
  -- what `&mut`s to both parts of a pair point to
  abbrev pub deref_both_mut : MutBor A × MutBor B → A × B
  deref_both_mut r = (r.0.now, r.1.now)

  -- the list with this pair at the index
  abbrev pub with_pair : PairList A B → ℕ → A × B → PairList A B
  with_pair v i p = with_pairs v (slice_set v.pairs i p)

  -- the pairs with this first part at the index
  abbrev pub set_first_at : List (A × B) → ℕ → A → List (A × B)
  set_first_at [] i a = []
  set_first_at (p ∷ ps) zero a = (a, p.1) ∷ ps
  set_first_at (p ∷ ps) (suc i) a = p ∷ set_first_at ps i a

  -- the pairs with these first parts; if they are fewer, the other pairs stay
  abbrev pub set_firsts : List (A × B) → List A → List (A × B)
  set_firsts ps xs = zip (refill (length ps) (firsts_of ps) xs) (seconds_of ps)

module _ {K V B : Type 0} where
  -- the pairs, each with the value that ws has at the same index, and with its own key and second part
  abbrev pub with_values : List ((K × V) × B) → List ((K × V) × B) → List ((K × V) × B)
  with_values [] ws = []
  with_values (p ∷ ps) [] = p ∷ with_values ps []
  with_values (p ∷ ps) (w ∷ ws) = ((p.0.0, w.0.1), p.1) ∷ with_values ps ws

module _ (A B : RattleType) (s : MutBor (PairList A.Denot B.Denot)) where
  -- once the `&mut` has ended, the list has at the index the first part that was written through it, and all else stays
  abbrev pub lends_first : ℕ → MutBor A.Denot → Fml
  lends_first i r = Lends (the_row A B) A s r (λ a. with_pairs s.now (set_first_at s.now.pairs i a))

  -- once the `&mut` has ended, the list has the first parts that were written through it, and all else stays
  abbrev pub lends_firsts : MutBor (List A.Denot) → Fml
  lends_firsts r = Lends (the_row A B) (Array A 0) s r (λ xs. with_pairs s.now (set_firsts s.now.pairs xs))

  -- once both `&mut`s have ended, the list has at the index the parts that were written through them, and all else
  -- stays
  abbrev pub lends_both : ℕ → MutBor A.Denot × MutBor B.Denot → Fml
  lends_both i r = LendsBoth (the_row A B) A B s r (λ a b. with_pair s.now i (a, b))

  -- once both `&mut`s have ended, if there are any, the list has at the index the parts that were written through them;
  -- without them it stays
  abbrev pub lends_both_if : ℕ → Option (MutBor A.Denot × MutBor B.Denot) → Fml
  lends_both_if i r = LendsBothIf (the_row A B) A B s r (λ a b. with_pair s.now i (a, b)) s.now

module _ (K V B : RattleType) where
  -- the list ends as `with_values` of what the loan of this name ends as: keys, second parts and capacity stay
  abbrev pub firsts_follow : MutBor (PairList (K.Denot × V.Denot) B.Denot) → GName → Fml
  firsts_follow s γ = follows (the_row (Pair K V) B) (the_row (Pair K V) B) s.ghost_name γ (λ w. with_pairs s.now (with_values s.now.pairs w.pairs))
