-- What the names of an interpreter are bound to. A name is given by the bytes of its text.
use mathlib.Core.Path.{refl}
use Rattle.std.specs.Prelude.{◌≡◌, ℕ, List, [], ◌∷◌, ◌++◌, Option, Some, None, All}
use Rattle.std.specs.Option.{option_or}
use Rattle.std.specs.declared.alloc.Global.{Global}
use Rattle.std.specs.declared.string.String.{String}
use Rattle.std.specs.Coded.{Coded, code_by, coded×, coded_list}
use Rattle.std_collections.specs.Layout.HashMap.{hash_map_code}
use Rattle.starlark_dict.specs.Dict.{Dict, get_by_text, memory_code}

-- what is bound in one scope: a dictionary, whose `entries` are the names with their values
abbrev pub Scope : Type 0 → Type 0
Scope V = Dict (String Global) V

-- the innermost scope, and those around it, of which the first is the outermost
pub record Bindings (V : Type 0) : Type 0 where
  pub innermost : Scope V
  pub enclosing : List (Scope V)

module _ {V : Type 0} where
  -- the innermost scope and those around it
  abbrev pub bindings : Scope V → List (Scope V) → Bindings V
  bindings scope around = record { innermost = scope; enclosing = around }

  -- how bindings are stored, from how a name and a value are
  pub bindings_code : Coded (String Global) → Coded V → Coded (Bindings V)
  bindings_code name value =
      let scope = hash_map_code name value memory_code in
      code_by (Scope V × List (Scope V)) (coded× scope (coded_list scope)) (λ b. (b.innermost, b.enclosing)) (λ p. bindings p.0 p.1) (λ _. refl)

  -- the value that a scope binds a name to: what is found at the string with this text
  abbrev pub bound : Scope V → List ℕ → Option V
  bound scope name = get_by_text scope name

  -- what several scopes bind a name to, of which the last is the innermost: the binding of an inner one stands before those of
  -- the others
  abbrev pub found : List (Scope V) → List ℕ → Option V
  found [] name = None
  found (scope ∷ inner) name = option_or (found inner name) (bound scope name)

  -- what a look-up of a name answers: the same of all scopes
  abbrev pub lookup : Bindings V → List ℕ → Option V
  lookup b name = option_or (bound b.innermost name) (found b.enclosing name)

  -- all scopes, of which the last is the innermost
  abbrev pub scopes_of : Bindings V → List (Scope V)
  scopes_of b = b.enclosing ++ b.innermost ∷ []

  -- the answer is what the innermost of those scopes that bind the name binds it to, and none where none does
  abbrev pub IsInnermost : List (Scope V) → List ℕ → Option V → Type 0
  IsInnermost scopes name None = All (λ scope. bound scope name ≡ None) scopes
  IsInnermost scopes name (Some value) =
      (outer : List (Scope V)) × ((scope : Scope V) × ((inner : List (Scope V)) × ((scopes ≡ outer ++ scope ∷ inner) × (bound scope name ≡ Some value) × All (λ s. bound s name ≡ None) inner)))
