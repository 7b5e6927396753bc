-- A map whose values were written keeps its keys, hashes and index.
use Rattle.starlark_hash.proofs.Common.{suc, ◌≡◌, ℕ, Bool, List, ◌∷◌, Option, refl, ap, keys_of}
use Rattle.starlark_hash.specs.Entries.{Entry, set_value_at}
use Rattle.starlark_small.specs.Along.{IsSound-same}
use Rattle.starlark_small.specs.Hashes.{Hashes}
use Rattle.starlark_small.specs.Index.{IsSound}
use Rattle.starlark_vecmap.specs.EntryList.{with_values}
use Rattle.starlark_vecmap.proofs.WrittenValues.{hashed_keys-with_values}

module _ {K V : Type 0} where
  pub IsSound-with_values : (eq : K → K → Bool) (es ws : List (Entry K V)) (index : Option Hashes) → IsSound eq es index → IsSound eq (with_values es ws) index
  IsSound-with_values eq es ws index sound = IsSound-same es (with_values es ws) (hashed_keys-with_values es ws) eq index sound

  pub hashed_keys-set_value_at : (es : List (Entry K V)) (i : ℕ) (value : V) → keys_of (set_value_at es i value) ≡ keys_of es
  hashed_keys-set_value_at (e ∷ es) (suc i) value = ap (λ l. e.0 ∷ l) (hashed_keys-set_value_at es i value)
  hashed_keys-set_value_at es i value = refl

  pub IsSound-set_value_at : (eq : K → K → Bool) (es : List (Entry K V)) (i : ℕ) (value : V) (index : Option Hashes) → IsSound eq es index → IsSound eq (set_value_at es i value) index
  IsSound-set_value_at eq es i value index sound = IsSound-same es (set_value_at es i value) (hashed_keys-set_value_at es i value) eq index sound
