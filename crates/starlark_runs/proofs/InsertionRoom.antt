-- Keys and room after an insertion.
use Rattle.starlark_hash.proofs.Common.{◌≡◌, ℕ, zero, suc, ◌+◌, ◌≤◌, ◌<◌, Bool, List, [], ◌∷◌, ◌++◌, length, Option, IsSome, Result, Ok, Err, IfOk, IsOk, IsErr, MatchResult, refl, ap, subst, arith, rules, keys_of, option_map_or, common_steps, false≢true}
use Rattle.starlark_hash.specs.declared.hashed.Hashed.{Hashed}
use Rattle.starlark_hash.specs.Entries.{Entry, set_value_at}
use Rattle.starlark_hash.specs.Insert.{insert_entry}
use Rattle.starlark_small.specs.Insert.{LeavesMemory}
use Rattle.starlark_small.specs.Map.{Map}
use Rattle.starlark_small.proofs.Inserting.{length_insert_le}

module _ {K V : Type 0} where
  keys_of-set_value_at : (es : List (Entry K V)) (i : ℕ) (value : V) → keys_of (set_value_at es i value) ≡ keys_of es
  keys_of-set_value_at [] i value = refl
  keys_of-set_value_at (e ∷ es) zero value = refl
  keys_of-set_value_at (e ∷ es) (suc i) value = ap (λ keys. e.0 ∷ keys) (keys_of-set_value_at es i value)

  -- replacing a value at an index keeps the keys
  pub keys_of-placed : (es : List (Entry K V)) (key : Hashed K) (value : V) (index : Option ℕ) → IsSome index
      → keys_of (option_map_or (λ i. set_value_at es i value) index (es ++ (key, value) ∷ [])) ≡ keys_of es
  keys_of-placed es key value index there = grind (arith, common_steps, keys_of-set_value_at)

  -- the map was made, and has room for n new entries
  abbrev pub HasRoom : {E : Type 0} → ℕ → Result (Map K V) E → Type 0
  HasRoom n r = MatchResult r (λ m. n ≤ m.room) (λ _. ⊥)

  -- an insertion into a map with room is not refused, and uses at most one place of the room
  pub HasRoom-inserted : {E : Type 0} (eq : K → K → Bool) (key : Hashed K) (value : V) (n : ℕ) (r s : Result (Map K V) E) → HasRoom (n + 1) r
      → MatchResult r (λ old. IfOk s (λ new. new.entries ≡ insert_entry eq old.entries key value)) (λ _. IsErr s)
      → IfOk r (λ old. 0 < old.room → IsOk s) → IfOk r (λ old. IfOk s (λ new. LeavesMemory eq old new key)) → HasRoom n s
  HasRoom-inserted eq key value n (Err e) s room put done kept = absurd room
  HasRoom-inserted eq key value n (Ok old) (Err e) room put done kept = absurd (false≢true (done (omega (arith, room))))
  HasRoom-inserted eq key value n (Ok old) (Ok new) room put done kept = omega (arith, room, kept.room, ap length put, length_insert_le eq old.entries key value)

  -- the entries of a map after an insertion into a map of these entries, if both were done
  pub entries-inserted : {E : Type 0} (eq : K → K → Bool) (es : List (Entry K V)) (key : Hashed K) (value : V) (r s : Result (Map K V) E) → IfOk r (λ m. m.entries ≡ es)
      → MatchResult r (λ old. IfOk s (λ new. new.entries ≡ insert_entry eq old.entries key value)) (λ _. IsErr s) → IfOk s (λ m. m.entries ≡ insert_entry eq es key value)
  entries-inserted eq es key value (Ok old) (Ok new) were put = subst (λ (ds : List (Entry K V)). new.entries ≡ insert_entry eq ds key value) were put
  entries-inserted eq es key value r s were put = search rules

  pub IsOk-HasRoom : {E : Type 0} (n : ℕ) (r : Result (Map K V) E) → HasRoom n r → IsOk r
  IsOk-HasRoom n r room = grind (arith, common_steps)
