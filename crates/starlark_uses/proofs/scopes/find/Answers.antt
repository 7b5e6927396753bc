use Rattle.starlark_hash.proofs.Common.{◌≡◌, suc, ◌-◌, ◌<◌, take, length, sym, ap, ◌∙◌, arith}
use Rattle.starlark_uses.specs.Bindings.{bound, found}
use Rattle.starlark_uses.proofs.Found.{found_here, found_outer}
use Rattle.starlark_uses.proofs.scopes.find.Goals as goal

pub returns-in-Some : goal.returns-in-Some
returns-in-Some g c =
    let scopes = c.args.scopes.now in
    let name = c.args.name.now in
    let i = c.loop-i.i - 1 in
    let scope = c.index-scopes-i.result in
    let within : i < length scopes = omega (arith, c.loop-i.auto.i, c.loop-i-test.true) in
    let next : suc i ≡ c.loop-i.i = omega (arith, c.loop-i-test.true) in
    sym (found_here scopes i scope name c.in-Some.value.now within (ap (λ s. bound s name) (sym c.index-scopes-i.is) ∙ sym c.in-Some.ensures.value))
    ∙ ap (λ n. found (take n scopes) name) next ∙ c.loop-i.invariant

pub loop-i-preserved : goal.loop-i-preserved
loop-i-preserved g c =
    let scopes = c.args.scopes.now in
    let name = c.args.name.now in
    let i = c.loop-i.i - 1 in
    let scope = c.index-scopes-i.result in
    let within : i < length scopes = omega (arith, c.loop-i.auto.i, c.loop-i-test.true) in
    let next : suc i ≡ c.loop-i.i = omega (arith, c.loop-i-test.true) in
    sym (found_outer scopes i scope name within (ap (λ s. bound s name) (sym c.index-scopes-i.is) ∙ sym c.in_default.ensures.value))
    ∙ ap (λ n. found (take n scopes) name) next ∙ c.loop-i.invariant
