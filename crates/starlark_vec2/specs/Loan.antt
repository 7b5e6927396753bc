-- Pairs that are stored side by side, whose second parts are lent while their first parts do not change.
use Rattle.std.specs.Prelude.{◌≡◌, ◌<◌, ◌⊎◌, ℕ, ◌+◌, ◌*◌, List, [], ◌∷◌, ◌++◌, length}
use Rattle.std.specs.Borrow.{Fml, RattleType, MutBor, GName, follows}
use Rattle.starlark_columns.specs.Cells.{items_of}
use Rattle.starlark_columns.specs.Front.{with_items}
use Rattle.starlark_columns.specs.declared.row.Row.{Row}
use Rattle.starlark_columns.specs.Lend.{with_cells}
use Rattle.starlark_vec2.specs.Columns.{column}
use base.Fml.{Lft, ffalse, fsep, feq, fobs, fbor}
use base.Stored.{coded_list}
use types.SemTy.{SemTy, cells, Body}
use denote.Memory.{mem}
use denote.RawPtr.{Ptr, block_ptr, null_ptr}
use denote.Slice.{room}
use denote.Struct.Tuple.{Tuple}

-- the pairs of ps, each with the second part that ws has at the same index, and with its own first part
abbrev pub with_seconds : {K V : Type 0} → List (K × V) → List (K × V) → List (K × V)
with_seconds [] ws = []
with_seconds (p ∷ ps) [] = p ∷ with_seconds ps []
with_seconds (p ∷ ps) (w ∷ ws) = (p.0, w.1) ∷ with_seconds ps ws

module _ (K V : RattleType) where
  -- the type of pairs
  abbrev pub Pair : RattleType
  Pair = Tuple (K ∷ V ∷ [])

  -- a pair as a type whose value at any w has the first part of p
  abbrev pub Kept : K.Denot × V.Denot → SemTy
  Kept p = record { rep = K.Denot × V.Denot; coded = Pair.coded; size = 0; own_at = λ w b o. (mem Pair).own_at (p.0, w.1) b o }

  -- pairs as a type whose value at any ws has the first parts of ps
  abbrev pub KeptRun : List (K.Denot × V.Denot) → SemTy
  KeptRun ps = record { rep = List (K.Denot × V.Denot); coded = coded_list Pair.coded; size = 0; own_at = λ ws b o. fsep (feq ℕ (length ws) (length ps)) (cells (mem Pair) (with_seconds ps ws) b o) }

  -- the right to write the second part of one pair, under the loan's name γ
  abbrev pub lent_one : Lft → ℕ → ℕ → GName → K.Denot × V.Denot → Fml
  lent_one κ b o γ p = fsep (fobs γ (Pair.coded.code p)) (fbor κ (Body (Kept p) b o γ))

  -- the right to write the second parts of the pairs ps, under the loan's name γ
  abbrev pub lent_run : Lft → ℕ → ℕ → GName → List (K.Denot × V.Denot) → Fml
  lent_run κ b o γ ps = fsep (fobs γ ((coded_list Pair.coded).code ps)) (fbor κ (Body (KeptRun ps) b o γ))

-- the right to write the second parts of ps, which begin at the index i of the pairs at p, under the loan's name γ
abbrev pub frozen : Lft → (K V : RattleType) → Ptr → ℕ → GName → List (K.Denot × V.Denot) → Fml
frozen κ K V (block_ptr b o) i γ ps = fsep (room (Pair K V) (i + length ps)) (lent_run K V κ b (i * (mem (Pair K V)).size + o) γ ps)
frozen κ K V null_ptr i γ ps = ffalse

module _ (K V : RattleType) where
  -- the column ends with the second parts that the loan of this name ends with, and its own first parts
  abbrev pub pairs_follow : MutBor (Row (K.Denot × V.Denot)) → GName → Fml
  pairs_follow s γ = follows (column (Pair K V)) (column (Pair K V)) s.ghost_name γ (λ w. with_cells s.now (with_items s.now.cells (with_seconds (items_of s.now.cells) (items_of w.cells))))

module _ {T : Type 0} (from : ℕ) (rest : List T) (index : ℕ) where
  -- the pair at this index of all is the first or the last of those that are left, which begin at `from`
  abbrev pub IsEnd : Type 0
  IsEnd = (0 < length rest) × ((index ≡ from) ⊎ (index + 1 ≡ from + length rest))

  -- the item at this index was x, and `others` are left, which begin at the index `next` of all
  abbrev pub TakesEnd : T → ℕ → List T → Type 0
  TakesEnd x next others =
      (index ≡ from → (rest ≡ x ∷ others) × (next ≡ from + 1))
      × (index + 1 ≡ from + length rest → (rest ≡ others ++ x ∷ []) × (0 < length others → next ≡ from))

-- what a `&mut V` points to
abbrev pub deref_mut : {V : Type 0} → MutBor V → V
deref_mut r = r.now
