-- The pairs of a value that is a dictionary. A key is given by the bytes of its text.
use Rattle.std.specs.Prelude.{ℕ, Bool, false, true, List, [], ◌∷◌, Option, Some, None}
use Rattle.std.specs.Borrow.{Bor}
use Rattle.std.specs.Map.{lookup, remove_entry}
use Rattle.std.specs.Option.{option_and_then, option_map, unwrap_or}
use Rattle.std.specs.Str.{bytes_eq}
use Rattle.std.specs.String.{string_bytes}
use Rattle.std.specs.declared.alloc.Global.{Global}
use Rattle.std.specs.declared.string.String.{String}
use Rattle.starlark_uses.specs.declared.value.Value.{Value, out-Value}
use Rattle.starlark_uses.specs.declared.value.Value.TheOpen.{Value-F}

-- those of a value that is taken apart by one layer
abbrev pub pairs_in : Value-F Value → Option (List (String Global × Value))
pairs_in (Value-F.Dict d) = Some d.entries
pairs_in Value-F.None = None
pairs_in (Value-F.Int n) = None
pairs_in (Value-F.Text s) = None
pairs_in (Value-F.List v) = None

-- the keys and values of a dictionary in their order, and none of another value
abbrev pub pairs_of : Value → Option (List (String Global × Value))
pairs_of value = pairs_in (out-Value value)

-- the value at the key with this text, of a dictionary that has it
abbrev pub value_at : Value → List ℕ → Option Value
value_at value text = option_and_then (lookup (λ key. bytes_eq text (string_bytes key))) (pairs_of value)

-- whether there is a value along a path of keys
abbrev pub has_path : Value → List (Bor (List ℕ)) → Bool
has_path value [] = true
has_path value (key ∷ keys) = unwrap_or (option_map (λ next. has_path next keys) (value_at value key.now)) false

-- the pairs without the key that has this text; the proofs of callers never unfold this word
unfoldable pub without_key : List (String Global × Value) → List ℕ → List (String Global × Value)
without_key es text = remove_entry (λ key. bytes_eq text (string_bytes key)) es
