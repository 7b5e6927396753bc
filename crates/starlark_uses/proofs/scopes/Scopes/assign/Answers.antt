use Rattle.starlark_hash.proofs.Common.{ap, ◌∙◌}
use Rattle.starlark_uses.specs.Bindings.{lookup}
use Rattle.starlark_uses.proofs.Found.{lookup_assigned_other}
use Rattle.starlark_uses.proofs.scopes.Scopes.assign.Goals as goal

pub returns-clause-others : goal.returns-clause-others
returns-clause-others g c = λ other differ.
    lookup_assigned_other c.insert.result c.self.inside.innermost c.insert.new.self c.self.inside.enclosing.items c.args.name c.args.value c.insert.ensures.updates c.insert.ensures.err other differ
    ∙ ap (λ b. lookup b other) c.self.view_is
