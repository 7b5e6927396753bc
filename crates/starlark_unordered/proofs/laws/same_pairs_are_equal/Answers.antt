use Rattle.starlark_hash.proofs.Common.{cond, sym, ℕ, sum_by-IsPermutation}
use Rattle.starlark_unordered.specs.BagLaws.{bag_from_counts, pair_equiv}
use Rattle.starlark_unordered.specs.Pairs.{pair_eq}
use Rattle.starlark_unordered.proofs.laws.same_pairs_are_equal.Goals as goal

pub returns : goal.returns
returns g c = λ same.
    bag_from_counts _ (pair_equiv _ _ g.met.K.Eq.laws g.met.V.Eq.laws) _ _ (λ z. sym (sum_by-IsPermutation (λ p. cond {A = ℕ} (pair_eq g.K.PartialEq.eq g.V.PartialEq.eq z p) 1 0) _ _ same))
