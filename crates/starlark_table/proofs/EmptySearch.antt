-- Searches with nothing to find.
use Rattle.starlark_hash.proofs.Common.{◌≡◌, ℕ, List, [], ◌∷◌, ◌++◌, Option, None, Bool, false, refl, Mut, Bor, IsPermutation-refl, length}
use Rattle.std.proofs.lemmas.List.{nil_from_length}
use Rattle.starlark_hash.specs.Search.{Asks, Refuses, Searches}
use Rattle.starlark_table.specs.Table.{holders_in}

module _ {F T : Type 0} (g : Mut F (Bor T × Unit {0}) Bool) where
  pub asks-after : (before later : List (ℕ × T)) (first f : F) (answer : Option ℕ) (last : F) → Refuses g first before f → Asks g f later answer last
      → Asks g first (before ++ later) answer last
  asks-after [] later first f answer last same asks = rw same asks
  asks-after (p ∷ before) later first f answer last (next, called, refused) asks = (false, next, called, asks-after before later next f answer last refused asks)

  -- if there is no item, the closure is not called
  pub searches_none : (items : List (ℕ × T)) (f : F) → items ≡ [] → Searches g items f None f
  searches_none items f none = record { order = []; rearranged = rw none (IsPermutation-refl []); asks = (refl, refl) }

  -- if there are no slots, the closure is not called
  pub searches_no_slots : (hash : ℕ) (slots : List (Option (ℕ × T))) (f : F) → length slots ≡ 0 → Searches g (holders_in hash slots) f None f
  searches_no_slots hash slots f none = rw (nil_from_length slots none) (searches_none [] f refl)
