use Rattle.starlark_hash.proofs.Common.{◌≡◌, ℕ, ◌<◌, true, nat_eq}
use Rattle.std.specs.Hash as fed
use Rattle.starlark_small.specs.Lookup.{contains}
use Rattle.starlark_uses.proofs.free.first_free.Given as goal

abbrev pub invariant-loop-n : goal.invariant-loop-n
invariant-loop-n l = (m : ℕ) → m < l.n-counter → contains nat_eq fed.u32 l.used m ≡ true
