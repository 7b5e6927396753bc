use Rattle.starlark_hash.proofs.Common.{◌≡◌, ◌∷◌, arith}
use Rattle.starlark_script.specs.Line.{fields_of}
use Rattle.starlark_script.proofs.FieldFacts.{some-field}
use Rattle.starlark_script.proofs.line.fields_in.Goals as goal

pub returns-in-Some-cut-3 : goal.returns-in-Some-cut-3
returns-in-Some-cut-3 c =
    let p = c.in-Some-cut-3.field-0 in
    let last : fields_of c.in-Some-cut-2.rest.now ≡ p.0.now ∷ fields_of p.1.now = c.in-Some-cut-3.ensures in
    let all : fields_of c.args.text.now ≡ c.in-Some.first.now ∷ c.in-Some-cut.second.now ∷ c.in-Some-cut-2.third.now ∷ p.0.now ∷ fields_of p.1.now = cc (c.in-Some.ensures, c.in-Some-cut.ensures, c.in-Some-cut-2.ensures, last) in
    let some = some-field p.1.now in
    rw all (omega arith)
