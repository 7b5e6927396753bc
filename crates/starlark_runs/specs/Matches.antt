-- The equality of maps, entry by entry.
use Rattle.std.specs.Prelude.{◌≡◌, Bool, List, length, All, IsSomeAnd, IsTrue}
use Rattle.starlark_hash.specs.Entries.{Entry, match_of, value_at}

module _ {K V : Type 0} (key_eq : K → K → Bool) (value_eq : V → V → Bool) where
  -- es has an entry with the hash of e and an equal key, and an equal value there
  abbrev pub HasMatch : List (Entry K V) → Entry K V → Type 0
  HasMatch es e = IsSomeAnd (value_at es (match_of key_eq es e.0)) (λ value. IsTrue (value_eq e.1 value))

  -- the lists have one length, and each entry of ds has a match in es
  abbrev pub HasMatches : List (Entry K V) → List (Entry K V) → Type 0
  HasMatches ds es = (length ds ≡ length es) × All (HasMatch es) ds
