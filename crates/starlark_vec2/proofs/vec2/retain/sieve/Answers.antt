use Rattle.starlark_hash.proofs.Common.{◌≡◌, ◌<◌, length, refl, get_or, ap, ◌∙◌, arith}
use Rattle.starlark_vec2.proofs.Retention.{sifting_asks, sifting_keeps, sifting_drops, sifting_ends}
use Rattle.starlark_vec2.proofs.vec2.retain.sieve.Goals as goal

pub ask-requires : goal.ask-requires
ask-requires g c =
    let at = c.loop-i in
    sifting_asks _ _ _ _ _ _ _ _ _ at.invariant.sifting _ _
    (omega (arith, at.auto.firsts)) (omega (arith, at.auto.firsts, at.auto.seconds, c.requires.even))
    (ap (λ z. get_or at.firsts at.i z) c.index-firsts-i.is) (ap (λ z. get_or at.seconds at.i z) c.index-seconds-i.is)

pub loop-i-preserved : goal.loop-i-preserved
loop-i-preserved g c =
    let at = c.loop-i in
    let inv = at.invariant in
    let lt : at.i < length at.firsts = omega (arith, at.auto.firsts) in
    let even : length at.firsts ≡ length at.seconds = omega (arith, at.auto.firsts, at.auto.seconds, c.requires.even) in
    let a_is = ap (λ z. get_or at.firsts at.i z) c.index-firsts-i.is in
    let b_is = ap (λ z. get_or at.seconds at.i z) c.index-seconds-i.is in
    elim c.if-ask.branch [
      | goal.then-ask w ↦ record {
        kept_before = omega arith;
        within = omega arith;
        sifting = sifting_keeps _ _ _ _ _ _ _ _ _ inv.sifting _ _ lt even a_is b_is inv.kept_before _ _ _ _ _ _
            (rw w.if-ask.true at c.ask.ensures) (w.firsts-is ∙ w.swap.ensures.after) (w.seconds-is ∙ w.swap-then-ask.ensures.after) w.kept-is;
      }
      | goal.else-ask w ↦ record {
        kept_before = omega arith;
        within = omega arith;
        sifting = sifting_drops _ _ _ _ _ _ _ _ _ inv.sifting _ _ lt even a_is b_is inv.kept_before _ _ _ _ _ _ (rw w.if-ask.false at c.ask.ensures) w.firsts-is w.seconds-is w.kept-is;
      }
    ]

pub returns-clause-pairs : goal.returns-clause-pairs
returns-clause-pairs g c = sifting_ends _ _ _ _ _ _ _ _ _ c.loop-i.invariant.sifting (omega (arith, c.loop-i.auto.firsts, c.loop-i-test.false)) _ _ refl refl
