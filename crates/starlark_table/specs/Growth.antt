-- The maximum load factor of a `ReadyTable`, and how far it grows.
use Rattle.std.specs.Prelude.{ℕ, ◌+◌, ◌*◌, ◌/◌, max}

-- the maximum load: how many members may be in m slots
abbrev pub limit : ℕ → ℕ
limit m = m / 8 * 6 + m / 16

-- the greatest capacity that a table makes for n members in all: twice as many, or 6
abbrev pub most_for : ℕ → ℕ
most_for n = max 6 (2 * n)
