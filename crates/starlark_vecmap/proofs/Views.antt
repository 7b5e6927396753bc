-- Two columns as a list of entries, and mapped lists.
use Rattle.starlark_hash.proofs.Common.{◌≡◌, ℕ, suc, List, [], ◌∷◌, ◌++◌, map, take, drop, reverse, remove, refl, sym, ap, ◌∙◌, map-append, reverse-append, keys_of, values_of}
use Rattle.std.proofs.lemmas.List.{drop-map, take-map}
use Rattle.std.proofs.lemmas.Simd.{map-map}
use Rattle.starlark_hash.specs.Entries.{Entry, entry_key, entry_value, pair_of}
use Rattle.starlark_vec2.specs.PairList.{firsts_of, seconds_of}
use Rattle.starlark_vecmap.specs.EntryList.{entry_of, entries_in}

module _ {X Y : Type 0} (f : X → Y) where
  pub map-remove : (xs : List X) (i : ℕ) → map f (remove xs i) ≡ remove (map f xs) i
  map-remove xs i = map-append f (take i xs) (drop (suc i) xs) ∙ (λ j. sym (take-map f i xs) j ++ sym (drop-map f (suc i) xs) j)

  pub map-reverse : (xs : List X) → map f (reverse xs) ≡ reverse (map f xs)
  map-reverse [] = refl
  map-reverse (x ∷ xs) = rw (reverse-append (x ∷ []) xs, map-append f (reverse xs) (x ∷ []), map-reverse xs, reverse-append (f x ∷ []) (map f xs))

module _ {K V : Type 0} where
  -- the entries of the columns of a list of pairs
  pub entries_in-columns : (ps : List ((K × V) × ℕ)) → entries_in (firsts_of ps) (seconds_of ps) ≡ map entry_of ps
  entries_in-columns [] = refl
  entries_in-columns (p ∷ ps) = ap (λ l. entry_of p ∷ l) (entries_in-columns ps)

  -- the keys and values of the entries
  pub pair_of-entry_of : (ps : List ((K × V) × ℕ)) → map pair_of (map entry_of ps) ≡ firsts_of ps
  pair_of-entry_of = map-map pair_of entry_of

  -- the keys and the values of the entries' pairs
  pub keys_of-pair_of : (es : List (Entry K V)) → keys_of (map pair_of es) ≡ map entry_key es
  keys_of-pair_of = map-map (λ p. p.0) pair_of

  pub values_of-pair_of : (es : List (Entry K V)) → values_of (map pair_of es) ≡ map entry_value es
  values_of-pair_of = map-map (λ p. p.1) pair_of

pub ruleset views = (map-remove, map-reverse, pair_of-entry_of, keys_of-pair_of, values_of-pair_of)
