-- What a `StarlarkHasher` computes, and a key's own hash.
use Rattle.std.specs.Prelude.{ℕ, zero, suc, ◌+◌, ◌*◌, ◌/◌, ◌%◌, ◌^◌, List, [], ◌∷◌, length, take, drop, nat_le, if◌then◌else◌, bit_xor, fold}
use Rattle.std.specs.Int.{w64, rotate_left}
use Rattle.std.specs.Hash.{HashWrites}
use Rattle.starlark_hash.specs.declared.hash_value.StarlarkHashValue.{StarlarkHashValue}
use Rattle.starlark_hash.specs.declared.hasher.StarlarkHasher.{StarlarkHasher}

-- the state s after one word w: s rotated left by 5 bits, xor w, times 0x517cc1b727220a95, modulo 2^64
unfoldable pub add_word : ℕ → ℕ → ℕ
add_word s w = (bit_xor (rotate_left w64 s 5) w * 0x517cc1b727220a95) % 2 ^ 64

-- these bytes as a little-endian number
abbrev pub number : List ℕ → ℕ
number [] = 0
number (b ∷ bs) = b + 256 * number bs

-- one word of n bytes if that many are left, and then the words of the rest
abbrev pub group : ℕ → (List ℕ → List ℕ) → List ℕ → List ℕ
group n rest bs = if nat_le n (length bs) then number (take n bs) ∷ rest (drop n bs) else rest bs

-- this number of words of 8 bytes, then one of 4, one of 2 and one of 1, as far as bytes are left
abbrev pub groups : ℕ → List ℕ → List ℕ
groups zero bs = group 4 (group 2 (group 1 (λ _. []))) bs
groups (suc n) bs = number (take 8 bs) ∷ groups n (drop 8 bs)

-- the words that bytes are read as: one for each whole group of 8, then one of 4, one of 2 and one of 1, as far as
-- bytes are left
unfoldable pub words : List ℕ → List ℕ
words bs = groups (length bs / 8) bs

-- the hasher to which nothing was written: its state is 0
abbrev pub initial : StarlarkHasher
initial = record { state = 0 }

-- the hasher after one word
abbrev pub with_word : StarlarkHasher → ℕ → StarlarkHasher
with_word s w = record { state = add_word s.state w }

-- the hasher after the words of these bytes, one after another
abbrev pub write : StarlarkHasher → List ℕ → StarlarkHasher
write s bytes = fold with_word s (words bytes)

-- a new hasher after these writes. What a value feeds is a list of writes, each a list of bytes
abbrev pub after_writes : HashWrites → StarlarkHasher
after_writes writes = fold write initial writes

-- what a hasher finishes with: its state
abbrev pub finish : StarlarkHasher → ℕ
finish s = s.state

-- the hash value of the low 32 bits of what a hasher finishes with
abbrev pub finish_small : StarlarkHasher → StarlarkHashValue
finish_small s = record { 0 = finish s % 2 ^ 32 }

-- the hash of these writes: the low 32 bits of what a new hasher finishes with after them. No proof about own hashes
-- unfolds it
unfoldable pub hash_of_writes : HashWrites → StarlarkHashValue
hash_of_writes writes = finish_small (after_writes writes)

-- a key's own hash: the hash of all that the key feeds. `feeds` is the key type's `hash_input`
abbrev pub own_hash : {K : Type 0} → (K → HashWrites) → K → StarlarkHashValue
own_hash feeds key = hash_of_writes (feeds key)
