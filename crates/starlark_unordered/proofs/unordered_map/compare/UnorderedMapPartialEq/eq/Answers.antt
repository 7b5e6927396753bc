use Rattle.starlark_hash.proofs.Common.{◌≡◌, ◌∙◌, arith, length, nat_tests}
use Rattle.starlark_unordered.specs.Pairs.{pairs_of}
use Rattle.starlark_unordered.specs.BagLaws.{found_is_bag, lengths_differ}
use Rattle.starlark_unordered.proofs.unordered_map.compare.UnorderedMapPartialEq.eq.Goals as goal

pub returns-then-len : goal.returns-then-len
returns-then-len g c =
    let each = rw (c.iter.ensures, c.self.view_is) at c.found_in.ensures in
    let bag = found_is_bag _ _ g.met.K.Eq.laws g.met.V.Eq.laws _ _ c.len.ensures.distinct c.len-2.ensures.distinct (omega (arith, c.if-len.true, c.len.ensures.len, c.len-2.ensures.len)) in
    record { same = each ∙ bag; has_each = λ _. each }

pub returns-else-len : goal.returns-else-len
returns-else-len g c =
    let apart : length (pairs_of c.args.self.now) ≡ length (pairs_of c.args.other.now) → ⊥ = λ e. absurd (omega (arith, e, c.if-len.false, c.len.ensures.len, c.len-2.ensures.len)) in
    let differ = lengths_differ g.K.PartialEq.eq g.V.PartialEq.eq g.met.K.Eq.laws g.met.V.Eq.laws (pairs_of c.args.self.now) (pairs_of c.args.other.now) apart in
    record { same = grind (arith, nat_tests, differ); has_each = λ e. absurd (apart e) }
