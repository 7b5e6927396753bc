-- A build graph: targets in the order of their declarations, each with what it is built from.
use Rattle.std.specs.Prelude.{ℕ, ◌<◌, Bool, false, List, [], Option, All, IsTrue, length, map, get_or, nat_eq, nat_lt}
use Rattle.std.specs.Global.{Vec}
use Rattle.std.specs.Hash as fed
use Rattle.std.specs.Option.{option_map, option_map_or}
use Rattle.starlark_hash.specs.Entries.{entry_value}
use Rattle.starlark_small.specs.Lookup.{get}
use Rattle.starlark_small.specs.Map.{Map, own_match}

-- each target with those that it is built from, in the order of their declarations
abbrev pub Graph : Type 0
Graph = Map ℕ (Vec ℕ)

-- what a target is built from, where it was declared
abbrev pub built_from : Graph → ℕ → Option (List ℕ)
built_from g target = option_map (λ v. v.items) (get nat_eq fed.u32 g target)

-- what the targets are built from, in the order of their declarations
abbrev pub parts : Graph → List (List ℕ)
parts g = map (λ v. v.items) (map entry_value g.entries)

-- whether a target was declared before this index
abbrev pub is_before : Graph → ℕ → ℕ → Bool
is_before g index target = option_map_or (λ found. nat_lt found index) (own_match nat_eq fed.u32 g.entries target) false

-- each target was declared after all that it is built from
abbrev pub IsOrdered : Graph → Type 0
IsOrdered g = (index : ℕ) → index < length (parts g) → All (λ on. IsTrue (is_before g index on)) (get_or (parts g) index [])
