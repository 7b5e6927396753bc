use Rattle.starlark_hash.proofs.SameText.{five_tell}
use Rattle.starlark_hash.proofs.Common.{arith, ap, ◌∙◌, bytes_eq}
use Rattle.starlark_hash.proofs.same_text.same_text.Goals as goal

pub returns : goal.returns
returns c =
    let x = c.as_bytes-x in
    let y = c.as_bytes-y in
    five_tell x.result.now y.result.now _ _ _ _ _ _ (omega arith) (omega arith) (omega arith) c.at_most_4-next.ensures.four
    c.same_4.ensures c.same_4-2.ensures c.same_4-3.ensures c.same_4-4.ensures c.same_4-5.ensures
    ∙ ap (λ l. bytes_eq l y.result.now) x.ensures.value ∙ ap (bytes_eq c.args.a.now) y.ensures.value
