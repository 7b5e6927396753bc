-- The value of a `Hashed` once a `&mut` into it has ended.
use Rattle.std.specs.Borrow.{Fml, RattleType, MutBor, Lends}
use Rattle.starlark_hash.specs.declared.hashed.Hashed.{Hashed}
use Rattle.starlark_hash.specs.contracts.hashed.Hashed.{the_row}
use Rattle.starlark_hash.specs.HashValue.{hashed, hash_of}

module _ (K : RattleType) where
  -- once the `&mut` r has ended, h has the last key that was written through r, with the hash that h had
  abbrev pub lends_key : MutBor (Hashed K.Denot) → MutBor K.Denot → Fml
  lends_key h r = Lends (the_row K) K h r (λ key. hashed (hash_of h.now) key)
