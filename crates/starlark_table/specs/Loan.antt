-- The slots of a table that are lent together, and are taken one after another.
use Rattle.std.specs.Prelude.{◌≡◌, ◌≢◌, ℕ, ◌+◌, ◌<◌, ◌≤◌, List, length, Option, None, IsSome, slice_index_or, refl}
use Rattle.std.specs.Coded.{Coded, code_by, coded×, coded_ℕ, coded_list, coded_option}
use Rattle.std.specs.Borrow.{GName}
use Rattle.starlark_table.specs.Layout.{at, empty_tag}

-- the view of a loan of slots: the slots still to be taken, which begin with the `from`-th of the table, and the name of
-- the whole loan
pub record Lent (T : Type 0) : Type 0 where
  pub from : ℕ
  pub rest : List (Option (ℕ × T))
  pub tie : GName

-- a loan's view is stored as the tuple of its fields
abbrev pub lent_code : {T : Type 0} → Coded T → Coded (Lent T)
lent_code {T} code =
    code_by
    (List (Option (ℕ × T)) × (ℕ × GName))
    (coded× (coded_list (coded_option (coded× coded_ℕ code))) (coded× coded_ℕ coded_ℕ))
    (λ l. (l.rest, (l.from, l.tie)))
    (λ p. record { from = p.1.0; rest = p.0; tie = p.1.1 })
    (λ _. refl)

-- the tags from the `from`-th on say which of these slots are full
pub record AreMarked {T : Type 0} (tags : List ℕ) (from : ℕ) (rest : List (Option (ℕ × T))) : Type 0 where
  pub sized : from + length rest ≤ length tags
  pub empty : (k : ℕ) → k < length rest → slice_index_or tags (from + k) 0 ≡ empty_tag → at rest k ≡ None
  pub full : (k : ℕ) → k < length rest → slice_index_or tags (from + k) 0 ≢ empty_tag → IsSome (at rest k)
