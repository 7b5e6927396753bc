-- Different hashes have different promotions.
use Rattle.starlark_hash.proofs.Common.{◌≡◌, ℕ, ◌^◌, ◌<◌, arith}
use Rattle.starlark_hash.specs.HashValue.{promoted}

pub promoted-injective : (h k : ℕ) → h < 2 ^ 32 → k < 2 ^ 32 → promoted h ≡ promoted k → h ≡ k
promoted-injective h k h_fits k_fits same = omega arith
