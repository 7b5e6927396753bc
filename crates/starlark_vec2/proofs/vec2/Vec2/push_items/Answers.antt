use Rattle.starlark_hash.proofs.Common.{◌≡◌, List, [], ◌∷◌, ◌++◌, refl, true, is_ok, length, sym, ap, subst, ◌∙◌, arith, rules, if◌then◌else◌, length_push}
use Rattle.std.proofs.iter.Next as it
use Rattle.starlark_vec2.specs.PairList.{PairList}
use Rattle.starlark_vec2.specs.Growth.{push, push_all}
use Rattle.starlark_vec2.proofs.vec2.Vec2.push_items.Goals as goal

push_all-push : {A B : Type 0} (v : PairList A B) (ps : List (A × B)) (p : A × B) → push_all v (ps ++ p ∷ []) ≡ push (push_all v ps) p
push_all-push v [] p = refl
push_all-push v (q ∷ ps) p = push_all-push (push v q) ps p

pub loop-pair-preserved : goal.loop-pair-preserved
loop-pair-preserved g c =
    let inv = c.loop-pair.invariant in
    let v = c.loop-pair.self in
    let x = c.in-Some.pair in
    let ok : is_ok c.push.result ≡ true = search (rules, c.is_err.ensures.negation, c.if-is_err.false) in
    let pushed : c.push.new.self ≡ push v x = subst (λ b. c.push.new.self ≡ if b then push v x else v) ok c.push.ensures.list in
    it.again inv x c.in-Some.is (c.next.ensures.steps, c.next.ensures.goes) (
      pushed ∙ ap (λ w. push w x) inv.holds.0 ∙ sym (push_all-push c.args.self.now inv.seen x),
      omega (arith, ap (λ w. length w.pairs) pushed, length_push v.pairs x, length_push inv.seen x, inv.holds.1),
      grind (arith, ap (λ w. w.capacity) pushed, inv.holds.2),
    )
