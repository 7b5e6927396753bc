-- Hash values, and keys with their hashes.
use Rattle.std.specs.Prelude.{ℕ, ◌*◌, ◌%◌, ◌/◌, ◌^◌, bit_xor}
use Rattle.starlark_hash.specs.declared.hash_value.StarlarkHashValue.{StarlarkHashValue}
use Rattle.starlark_hash.specs.declared.hashed.Hashed.{Hashed}

-- the number of a hash, below 2^32
abbrev pub hash_number : StarlarkHashValue → ℕ
hash_number hash = hash.0

-- the hash with this number
abbrev pub hash_value : ℕ → StarlarkHashValue
hash_value n = record { 0 = n }

-- a hash's number times 0x9e3779b97f4a7c15, modulo 2^64. The factor is odd, so different hashes have different promotions
abbrev pub promoted : ℕ → ℕ
promoted h = (h * 0x9e3779b97f4a7c15) % 2 ^ 64

-- a 64-bit number xor its own upper 31 bits
abbrev pub folded : ℕ → ℕ
folded h = bit_xor h (h / 2 ^ 33)

-- a 64-bit number with its bits mixed: folded, times a constant, folded, times another, folded; each product modulo 2^64
abbrev pub mixed : ℕ → ℕ
mixed h = folded ((folded ((folded h * 0xff51afd7ed558ccd) % 2 ^ 64) * 0xc4ceb9fe1a85ec53) % 2 ^ 64)

module _ {K : Type 0} where
  -- the key with this hash
  abbrev pub hashed : StarlarkHashValue → K → Hashed K
  hashed hash key = record { hash = hash; key = key }

  -- the hash that the key is stored under
  abbrev pub hash_of : Hashed K → StarlarkHashValue
  hash_of h = h.hash

  -- the key without its hash
  abbrev pub key_of : Hashed K → K
  key_of h = h.key
