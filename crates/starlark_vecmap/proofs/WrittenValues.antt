-- Entries whose values were written keep their own keys and hashes.
use Rattle.starlark_hash.proofs.Common.{◌≡◌, ℕ, List, [], ◌∷◌, map, length, refl, ap, arith, length-map}
use Rattle.starlark_hash.specs.Entries.{Entry, entry_hash, entry_key, pair_of}
use Rattle.starlark_hash.specs.declared.hashed.Hashed.{Hashed}
use Rattle.starlark_hash.specs.HashValue.{hash_of, key_of}
use Rattle.starlark_vec2.specs.Lend as pairs
use Rattle.starlark_vecmap.specs.EntryList.{entry_of, with_values}
use Rattle.starlark_vecmap.proofs.Views.{values_of-pair_of}

module _ {K V : Type 0} where
  -- writing the values of pairs is writing the values of their entries
  pub with_values-entry_of : (ps ws : List ((K × V) × ℕ)) → with_values (map entry_of ps) (map entry_of (pairs.with_values ps ws)) ≡ map entry_of (pairs.with_values ps ws)
  with_values-entry_of [] ws = refl
  with_values-entry_of (p ∷ ps) [] = ap (λ l. entry_of p ∷ l) (with_values-entry_of ps [])
  with_values-entry_of (p ∷ ps) (w ∷ ws) = ap (λ l. entry_of ((p.0.0, w.0.1), p.1) ∷ l) (with_values-entry_of ps ws)

  -- writing the same values twice is writing them once
  pub with_values-again : (es ws : List (Entry K V)) → with_values es (with_values es ws) ≡ with_values es ws
  with_values-again [] ws = refl
  with_values-again (e ∷ es) [] = ap (λ l. e ∷ l) (with_values-again es [])
  with_values-again (e ∷ es) (w ∷ ws) = ap (λ l. (e.0, w.1) ∷ l) (with_values-again es ws)

  map-with_values : {Y : Type 0} (f : Hashed K → Y) (es ws : List (Entry K V)) → map (λ e. f e.0) (with_values es ws) ≡ map (λ e. f e.0) es
  map-with_values f [] ws = refl
  map-with_values f (e ∷ es) [] = ap (λ l. f e.0 ∷ l) (map-with_values f es [])
  map-with_values f (e ∷ es) (w ∷ ws) = ap (λ l. f e.0 ∷ l) (map-with_values f es ws)

  -- each entry keeps its key and its hash
  pub hashed_keys-with_values : (es ws : List (Entry K V)) → map (λ e. e.0) (with_values es ws) ≡ map (λ e. e.0) es
  hashed_keys-with_values es ws = map-with_values (λ h. h) es ws

  pub keys-with_values : (es ws : List (Entry K V)) → map entry_key (with_values es ws) ≡ map entry_key es
  keys-with_values es ws = map-with_values key_of es ws

  pub hashes-with_values : (es ws : List (Entry K V)) → map entry_hash (with_values es ws) ≡ map entry_hash es
  hashes-with_values es ws = map-with_values hash_of es ws

  pub length-with_values : (es ws : List (Entry K V)) → length (with_values es ws) ≡ length es
  length-with_values es ws = grind (arith, ap length (hashed_keys-with_values es ws), length-map)

  pub length-pair_of : (es : List (Entry K V)) → length (map pair_of es) ≡ length es
  length-pair_of es = length-map es pair_of

-- lemmas for calls that return mutable iterators, and for their callers
pub ruleset written = (length-with_values, hashed_keys-with_values, keys-with_values, hashes-with_values, values_of-pair_of, length-pair_of)
