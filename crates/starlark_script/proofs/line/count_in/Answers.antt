use Rattle.starlark_hash.proofs.Common.{◌<◌, ◌^◌, sym, ◌∙◌, rules, arith}
use Rattle.std.proofs.lemmas.Fmt.{decimal_injective}
use Rattle.starlark_script.proofs.line.count_in.Goals as goal

pub returns-else-n-le-MOST-clause-none : goal.returns-else-n-le-MOST-clause-none
returns-else-n-le-MOST-clause-none c = λ n small e.
    let fits : c.in_ok-n.field-0 < 2 ^ 64 = search rules in
    let same = decimal_injective n c.in_ok-n.field-0 (omega arith) fits (sym e ∙ c.in_ok-n.ensures.some) in
    omega arith
