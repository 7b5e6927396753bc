-- What `retain` leaves of a list if the closure keeps every pair, and when a closure may be called at each element in turn.
use Rattle.std.specs.Prelude.{Bool, List, map}
use Rattle.std.specs.Borrow.{Bor}
use Rattle.std.specs.Fn.{CalledAt, Mut, TakesAt}
use Rattle.starlark_hash.specs.Retain.{TakesInTurn}

module _ {K V : Type 0} where
  -- the pairs, each with the value that this makes of it; callers' proofs never unfold this word
  unfoldable pub with_each_value : (K × V → V) → List (K × V) → List (K × V)
  with_each_value value es = map (λ p. (p.0, value p)) es

-- f may be called at a `&` to each element in turn, each time as the calls before have left it
abbrev pub CallableOnEach : {F T : Type 0} → Mut F (Bor T × Unit {0}) Bool → F → List T → Type 0
CallableOnEach g f xs = TakesInTurn (λ f x keeps y f'. CalledAt g f x keeps f') (TakesAt g) f xs
