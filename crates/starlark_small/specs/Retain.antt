-- The entries after a closure has written each value.
use Rattle.std.specs.Prelude.{List, map}
use Rattle.starlark_hash.specs.Entries.{Entry}

module _ {K V : Type 0} where
  -- the entries, each with the value that the function makes of it. Callers' proofs never unfold this definition
  unfoldable pub with_each_value : (Entry K V → V) → List (Entry K V) → List (Entry K V)
  with_each_value value es = map (λ e. (e.0, value e)) es
