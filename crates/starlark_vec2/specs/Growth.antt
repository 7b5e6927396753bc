-- The capacity of a list of pairs, after a reservation and after a push.
use Rattle.std.specs.Prelude.{◌≡◌, ℕ, ◌+◌, ◌*◌, ◌-◌, ◌^◌, max, min, List, [], ◌∷◌, ◌++◌, length, nat_lt, if◌then◌else◌}
use Rattle.std.specs.Mem.{type_size}
use denote.RattleType.{RattleType}
use Rattle.starlark_vec2.specs.PairList.{PairList, pair_list}

-- pairs of these types take no bytes
abbrev pub TakesNoBytes : RattleType → RattleType → Type 0
TakesNoBytes A B = (type_size A ≡ 0) × (type_size B ≡ 0)

module _ {A B : Type 0} where
  -- the capacity after growth that makes room for n further pairs: the largest of the needed one, 4, and twice the old
  -- one, which is capped at the greatest `usize`
  abbrev pub grown_capacity : PairList A B → ℕ → ℕ
  grown_capacity v n = max (length v.pairs + n) (max 4 (min (2 * v.capacity) (2 ^ 64 - 1)))

  -- the capacity after a reservation for n further pairs: it grows only if capacity less length is below n
  abbrev pub reserved_capacity : PairList A B → ℕ → ℕ
  reserved_capacity v n = if nat_lt (v.capacity - length v.pairs) n then grown_capacity v n else v.capacity

  -- the list after room was reserved for n further pairs
  abbrev pub reserve : PairList A B → ℕ → PairList A B
  reserve v n = pair_list v.pairs (reserved_capacity v n)

  -- the list after this pair was appended
  abbrev pub push : PairList A B → A × B → PairList A B
  push v p = pair_list (v.pairs ++ p ∷ []) (reserved_capacity v 1)

  -- the list after these pairs were appended, one after the other
  abbrev pub push_all : PairList A B → List (A × B) → PairList A B
  push_all v [] = v
  push_all v (p ∷ ps) = push_all (push v p) ps
