-- What an insertion makes of a list of entries.
use Rattle.std.specs.Prelude.{Bool, List, [], ◌∷◌, ◌++◌}
use Rattle.std.specs.Option.{option_map_or}
use Rattle.starlark_hash.specs.declared.hashed.Hashed.{Hashed}
use Rattle.starlark_hash.specs.Entries.{Entry, match_of, set_value_at}

module _ {K V : Type 0} (eq : K → K → Bool) where
  -- the list after an insertion: an entry with an equal key keeps its index and its stored key and gets the value; a
  -- new entry is appended
  abbrev pub insert_entry : List (Entry K V) → Hashed K → V → List (Entry K V)
  insert_entry es key value = option_map_or (λ i. set_value_at es i value) (match_of eq es key) (es ++ (key, value) ∷ [])
