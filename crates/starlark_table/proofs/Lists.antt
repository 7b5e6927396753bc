-- Lists that a loop passes through one slot after another.
use Rattle.starlark_hash.proofs.Common.{◌≡◌, ℕ, ◌+◌, ◌<◌, ◌∷◌, List, drop, arith, length, get_or, set, common_steps}

module _ {X : Type 0} where
  pub head_left : (initial cur : List X) (i : ℕ) (r o : X) → i < length cur
      → drop i cur ≡ drop i initial → get_or cur i r ≡ o → drop i initial ≡ o ∷ drop (i + 1) initial
  head_left initial cur i r o i_in same read = grind (arith, common_steps)

  pub still_untouched : (initial cur new : List X) (i : ℕ) (o : X)
      → drop i cur ≡ drop i initial → new ≡ set cur i o → drop (i + 1) new ≡ drop (i + 1) initial
  still_untouched initial cur new i o same is = grind (arith, common_steps)
