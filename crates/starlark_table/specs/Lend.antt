-- What a table ends as after its items were written through a `&mut` to one of them, or by a mutable iterator.
use Rattle.std.specs.Prelude.{ℕ, List, [], ◌∷◌, Option, Some, None, ◌≡◌, ⊤}
use Rattle.starlark_table.specs.Table.{Table, with_item}
use Rattle.std.specs.Borrow.{Lends, LendsIf, follows, GName, Fml, RattleType, MutBor, follows_so}
use denote.Struct.Tuple.{Tuple}
use Rattle.starlark_table.specs.declared.kept_hash.KeptHash as KeptHash
use Rattle.starlark_table.specs.contracts.ready_table.ReadyTable.{the_row}
use mathlib.Core.Option.{none}
use Rattle.starlark_columns.specs.Loan.{kept_cells}
use Rattle.starlark_columns.specs.contracts.bytes.Bytes.{the_row as bytes_row}
use Rattle.starlark_table.specs.contracts.kept_hash.Kept.{the_row as kept_row}

-- the items of a list, each updated by the item at its place in another list
abbrev pub each_updated : {X : Type 0} → (X → X → X) → List X → List X → List X
each_updated update [] ws = []
each_updated update (x ∷ xs) [] = x ∷ each_updated update xs []
each_updated update (x ∷ xs) (w ∷ ws) = update x w ∷ each_updated update xs ws

-- a slot with the item of another: an empty slot stays empty, and a full one keeps its hash
abbrev pub with_item_of : {T : Type 0} → Option (ℕ × T) → Option (ℕ × T) → Option (ℕ × T)
with_item_of None w = None
with_item_of (Some m) None = Some m
with_item_of (Some m) (Some w) = Some (m.0, w.1)

-- slots, each with the item at its place in another list
abbrev pub with_items_of : {T : Type 0} → List (Option (ℕ × T)) → List (Option (ℕ × T)) → List (Option (ℕ × T))
with_items_of = each_updated with_item_of

-- a table with the items of another: its slots, their hashes and its room are kept
abbrev pub with_written : {T : Type 0} → Table T → Table T → Table T
with_written t written = record t { slots = with_items_of t.slots written.slots }

module _ {K V : Type 0} where
  -- a slot with the value of another: an empty slot stays empty, and a full one keeps its hash and its key
  abbrev pub with_value_of : Option (ℕ × (K × V)) → Option (ℕ × (K × V)) → Option (ℕ × (K × V))
  with_value_of None w = None
  with_value_of (Some m) None = Some m
  with_value_of (Some m) (Some w) = Some (m.0, (m.1.0, w.1.1))

  -- slots, each with the value at its place in another list
  abbrev pub with_values_of : List (Option (ℕ × (K × V))) → List (Option (ℕ × (K × V))) → List (Option (ℕ × (K × V)))
  with_values_of = each_updated with_value_of

  -- a table with the values of another: its slots, their hashes and keys, and its room are kept
  abbrev pub with_values : Table (K × V) → Table (K × V) → Table (K × V)
  with_values t written = record t { slots = with_values_of t.slots written.slots }

module _ (T H : RattleType) (G : KeptHash.Ghosts H.Denot) where
  -- once the borrow r ends, the slot has the last value written through it, under its hash
  abbrev pub lends_item : MutBor (Table T.Denot) → ℕ → MutBor T.Denot → Fml
  lends_item s slot r = Lends (the_row T H G) T s r (with_item s.now slot)

  -- if r is a reference, the slot has the last value written through it, under its hash; if it is `None`, the table is
  -- unchanged
  abbrev pub lends_get : MutBor (Table T.Denot) → ℕ → Option (MutBor T.Denot) → Fml
  lends_get s slot r = LendsIf (the_row T H G) T s r (with_item s.now slot) s.now

  -- the table ends as `with_written` of what a loan of its items ends as: each full slot has the item left there, under its
  -- hash
  abbrev pub table_follows : MutBor (Table T.Denot) → GName → Fml
  table_follows s γ = follows (the_row T H G) (the_row T H G) s.ghost_name γ (with_written s.now)

module _ (K V H : RattleType) (G : KeptHash.Ghosts H.Denot) where
  -- a table of pairs ends as `with_values` of what a loan of its values ends as: each full slot has the value left there,
  -- under its hash and key
  abbrev pub values_follow : MutBor (Table (K.Denot × V.Denot)) → GName → Fml
  values_follow s γ = follows (the_row (Tuple (K ∷ V ∷ [])) H G) (the_row (Tuple (K ∷ V ∷ [])) H G) s.ghost_name γ (with_values s.now)

-- what a `&mut` points to
abbrev pub written_through : {T : Type 0} → MutBor T → T
written_through r = r.now

-- the type of a member: a hash and an item
abbrev pub Member : (T H : RattleType) → KeptHash.Ghosts H.Denot → RattleType
Member T H G = Tuple (kept_row H G ∷ T ∷ [])

-- the type `Bytes` of the tags
abbrev pub Tags : RattleType
Tags = bytes_row

-- the tags end unchanged
abbrev pub tags_stay : MutBor (List ℕ) → Fml
tags_stay s = follows_so Tags Tags s.ghost_name none (λ _ _. ⊤) (λ n. n ≡ s.now)

-- a table with the content that another has in its full slots, except what `kept` keeps
abbrev pub with_kept : {T : Type 0} → (ℕ × T → ℕ × T → ℕ × T) → Table T → Table T → Table T
with_kept kept t written = record t { slots = kept_cells kept t.slots written.slots }

module _ (T H : RattleType) (G : KeptHash.Ghosts H.Denot) (kept : ℕ × T.Denot → ℕ × T.Denot → ℕ × T.Denot) where
  -- once a loan of the members ends, the table has in each full slot what was left there, except what `kept` keeps
  abbrev pub table_keeps : MutBor (Table T.Denot) → GName → Fml
  table_keeps s γ = follows (the_row T H G) (the_row T H G) s.ghost_name γ (with_kept kept s.now)
