use Rattle.starlark_hash.proofs.Common.{◌≡◌, ◌+◌, ◌-◌, ◌^◌, min, sym, ap, ◌∙◌, arith}
use Rattle.starlark_uses.specs.Counts.{count, count_all}
use Rattle.starlark_uses.proofs.Counted.{count_dict}
use Rattle.starlark_uses.proofs.value.Value.+count.Goals as goal

pub loop-value-2-init : goal.loop-value-2-init
loop-value-2-init t c =
    let all : 1 + count_all c.into_iter-value-iterator.result ≡ count c.args.self.now =
    ap (λ vs. 1 + count_all vs) (c.into_iter-value-iterator.ensures.into_iter_gives ∙ c.values-value-items.ensures.rest) ∙ sym (count_dict c.in-Dict.dict) ∙ sym (ap count c.in-Dict.is) in
    (omega arith, ap (λ n. min n (2 ^ 64 - 1)) all)

pub returns-in-None-value : goal.returns-in-None-value
returns-in-None-value t c =
    let none : count_all c.loop-value-2.value-iterator ≡ 0 = ap count_all c.in-None-value.ensures.steps.0 in
    omega (arith, c.loop-value-2.invariant.0, c.loop-value-2.invariant.1, none)
