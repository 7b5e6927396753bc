-- Values of an interpreter, spelled out.
use Rattle.std.specs.Prelude.{◌++◌, ◌∷◌, List, [], length, map, ℕ, ℤ}
use Rattle.std.specs.String.{string_bytes}
use Rattle.starlark_uses.specs.declared.value.Value.{Value}
use Rattle.starlark_uses.specs.declared.value.Value.TheOpen.{Value-F}
use Rattle.starlark_uses.specs.declared.value.Value.TheFolds.{fold-Value}

-- what a value is spelled with: a list and a dictionary by their length, before what they hold
pub data Mark : Type 0 where
  nothing : Mark
  int : ℤ → Mark
  text : List ℕ → Mark
  list : ℕ → Mark
  dict : ℕ → Mark

-- spellings, one behind another
abbrev pub spell_all : List (List Mark) → List Mark
spell_all [] = []
spell_all (s ∷ ss) = s ++ spell_all ss

-- names, each before the spelling of its value
abbrev pub spell_pairs : List (List ℕ × List Mark) → List Mark
spell_pairs [] = []
spell_pairs (p ∷ ps) = text p.0 ∷ (p.1 ++ spell_pairs ps)

-- the spelling of a value from those of its parts
abbrev pub spell_step : Value-F (List Mark) → List Mark
spell_step Value-F.None = nothing ∷ []
spell_step (Value-F.Int n) = int n ∷ []
spell_step (Value-F.Text s) = text (string_bytes s) ∷ []
spell_step (Value-F.List v) = list (length v.items) ∷ spell_all v.items
spell_step (Value-F.Dict d) = dict (length d.entries) ∷ spell_pairs (map (λ p. (string_bytes p.0, p.1)) d.entries)

-- the spelling of a value: all of it but its memory
abbrev pub spelled : Value → List Mark
spelled = fold-Value (List Mark) spell_step
