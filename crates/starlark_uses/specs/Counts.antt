-- How many values a value is made of.
use Rattle.std.specs.Prelude.{ℕ, ◌+◌, List, [], ◌∷◌, map}
use Rattle.std.specs.Map.{values_of}
use Rattle.starlark_uses.specs.declared.value.Value.{Value}
use Rattle.starlark_uses.specs.declared.value.Value.TheOpen.{Value-F}
use Rattle.starlark_uses.specs.declared.value.Value.TheFolds.{fold-Value}

-- the sum of numbers
abbrev pub sum_of : List ℕ → ℕ
sum_of [] = 0
sum_of (n ∷ ns) = n + sum_of ns

-- one value, with the counts of those that it holds in their places
abbrev pub count_step : Value-F ℕ → ℕ
count_step Value-F.None = 1
count_step (Value-F.Int n) = 1
count_step (Value-F.Text s) = 1
count_step (Value-F.List v) = 1 + sum_of v.items
count_step (Value-F.Dict d) = 1 + sum_of (values_of d.entries)

-- how many values a value is made of, itself included
abbrev pub count : Value → ℕ
count = fold-Value ℕ count_step

-- how many values several are made of, themselves included
abbrev pub count_all : List Value → ℕ
count_all vs = sum_of (map count vs)
