-- The hashes of a list that its hash index stores, and what each call makes of them.
use Rattle.std.specs.Prelude.{◌≡◌, ◌≢◌, ℕ, ◌+◌, ◌-◌, ◌<◌, nat_eq, Bool, true, false, List, [], ◌∷◌, ◌++◌, filter, length, map, remove, reverse}
use Rattle.std.specs.List.{All}
use Rattle.starlark_hash.specs.HashValue.{hash_number, promoted}
use Rattle.starlark_hash.specs.declared.hash_value.StarlarkHashValue.{StarlarkHashValue}

-- the promoted hashes of a list, in order, and how many further ones certainly need no memory
pub record Hashes : Type 0 where
  pub list : List ℕ
  pub room : ℕ

-- the promotion of a hash
abbrev pub hash_under : StarlarkHashValue → ℕ
hash_under hash = promoted (hash_number hash)

-- each index, counted from n, under its hash
abbrev pub numbered_from : ℕ → List ℕ → List (ℕ × ℕ)
numbered_from n [] = []
numbered_from n (h ∷ hs) = (h, n) ∷ numbered_from (n + 1) hs

-- each index under its hash
abbrev pub numbered : List ℕ → List (ℕ × ℕ)
numbered hs = numbered_from 0 hs

-- the indices under a hash, each paired with itself
abbrev pub indices_under : ℕ → List ℕ → List (ℕ × ℕ)
indices_under hash hs = map (λ m. (m.1, m.1)) (filter (λ m. nat_eq m.0 hash) (numbered hs))

-- a hash was appended, and took the room of one
abbrev pub noted : StarlarkHashValue → Hashes → Hashes
noted hash h = record { list = h.list ++ hash_under hash ∷ []; room = h.room - 1 }

-- the hash at an index was removed, and its room is free
abbrev pub forgotten : ℕ → Hashes → Hashes
forgotten index h = record { list = remove h.list index; room = h.room + 1 }

-- all hashes were removed, and the room of each is free
abbrev pub cleared : Hashes → Hashes
cleared h = record { list = []; room = length h.list + h.room }

-- the order was reversed
abbrev pub reversed : Hashes → Hashes
reversed h = record { list = reverse h.list; room = h.room }

-- a hash that was not there was appended, and there was room for it; or nothing has changed
pub record NotesNew (hash : StarlarkHashValue) (old new : Hashes) (is_new : Bool) : Type 0 where
  pub lacked : is_new ≡ true → All (λ h. h ≢ hash_under hash) old.list
  pub room : is_new ≡ true → 0 < old.room
  pub put : is_new ≡ true → new ≡ noted hash old
  pub unchanged : is_new ≡ false → new ≡ old
