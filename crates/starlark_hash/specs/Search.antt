-- Searches that ask a closure about items, each of which has a name.
use Rattle.std.specs.Prelude.{◌≡◌, ℕ, Bool, false, List, [], ◌∷◌, ◌++◌, Option, Some, None, MatchBool, filter, map, IsPermutation}
use Rattle.std.specs.Borrow.{Bor}
use Rattle.std.specs.Fn.{Mut, CalledAt, TakesAt}
use Rattle.std.specs.List.{FoldsTo, enumerate_from}
use Rattle.starlark_hash.specs.declared.hash_value.StarlarkHashValue.{StarlarkHashValue}
use Rattle.starlark_hash.specs.Entries.{Entry, entry_key, is_under}

module _ {F N X : Type 0} (g : Mut F (Bor X × Unit {0}) Bool) where
  -- the closure f is asked about the items in turn, each time in the state that the call before left, until it accepts
  -- one. `answer` is the name of that item, or none if f refused all; `last` is the state that f ends in
  abbrev pub Asks : F → List (N × X) → Option N → F → Type 0
  Asks f [] answer last = (answer ≡ None) × (last ≡ f)
  Asks f (p ∷ ps) answer last =
      (accepts : Bool) × (next : F) × CalledAt g f p.1 accepts next
      × MatchBool accepts ((answer ≡ Some p.0) × (last ≡ next)) (Asks next ps answer last)

  -- f is asked about these items in some order, about each at most once, until it accepts one
  pub record Searches (items : List (N × X)) (f : F) (answer : Option N) (last : F) : Type 0 where
    pub order : List (N × X)
    pub rearranged : IsPermutation items order
    pub asks : Asks f order answer last

  -- f refuses the items in turn, each time in the state that the call before left
  abbrev pub Refuses : F → List (N × X) → F → Type 0
  Refuses f items last = FoldsTo (λ s p t. CalledAt g s p.1 false t) f items last

  -- f may be called on the items in any order, on each after it refused those before
  pub record CanSearch (items : List (N × X)) (f : F) : Type 0 where
    pub at : (before : List (N × X)) (p : N × X) (after : List (N × X)) (later : F)
        → IsPermutation items (before ++ p ∷ after) → Refuses f before later → TakesAt g later p.1

-- the indices of the entries that are stored under this hash, each with its key
abbrev pub keys_under : {K V : Type 0} → StarlarkHashValue → List (Entry K V) → List (ℕ × K)
keys_under hash es = map (λ p. (p.0, entry_key p.1)) (filter (λ p. is_under hash p.1) (enumerate_from 0 es))
