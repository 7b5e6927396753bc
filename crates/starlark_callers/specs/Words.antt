-- Sets of words, each byte of which leads to what may follow it.
use Rattle.std.specs.Prelude.{◌∷◌, Bool, List, [], false, nat_eq, ℕ}
use Rattle.std.specs.Hash as fed
use Rattle.std.specs.Option.{option_map, unwrap_or}
use Rattle.starlark_small.specs.Lookup.{get}
use Rattle.starlark_callers.specs.declared.nested.Words.{Words, out-Words}

-- whether a word is there: each byte leads on, and where the bytes end, a word ends
abbrev pub has_word : Words → List ℕ → Bool
has_word words [] = (out-Words words).ends
has_word words (byte ∷ rest) = unwrap_or (option_map (λ next. has_word next rest) (get nat_eq fed.u8 (out-Words words).after byte)) false
