use Rattle.starlark_hash.proofs.Common.{◌≡◌, ℕ, is_some, nat_eq, true}
use Rattle.starlark_dict.specs.Dict.{get}
use Rattle.dict_callers.proofs.entries.count_numbers.Given as goal

abbrev pub invariant-loop-number : goal.invariant-loop-number
invariant-loop-number l = (number : ℕ) → is_some (get nat_eq l.initial.counts number) ≡ true → is_some (get nat_eq l.counts number) ≡ true
