use Rattle.starlark_hash.proofs.Common.{◌≡◌, List, [], ◌∷◌, ◌++◌, ap, ◌∙◌}
use Rattle.starlark_uses.specs.Bindings.{Bindings, Scope, bindings, lookup}
use Rattle.starlark_uses.proofs.Found.{lookup_entered}
use Rattle.starlark_uses.proofs.scopes.Scopes.enter.Goals as goal

pub returns-clause-same : goal.returns-clause-same
returns-clause-same g c = λ name.
    let old : Bindings g.row.V.Denot = bindings c.self.inside.innermost c.self.inside.enclosing.items in
    let new : Bindings g.row.V.Denot = bindings c.replace-outer.new.dest c.push.new.self.items in
    let bare : new.innermost.entries ≡ [] = ap (λ d. d.entries) c.replace-outer.ensures.after ∙ c.new.ensures.empty in
    let around : new.enclosing ≡ old.enclosing ++ old.innermost ∷ [] =
    ◌∙◌ {A = List (Scope g.row.V.Denot)} c.in_ok-push.ensures.items (λ i. c.reserve.ensures.items i ++ c.replace-outer.ensures.value i ∷ []) in
    lookup_entered old new bare around name ∙ ap (λ b. lookup b name) c.self.view_is
