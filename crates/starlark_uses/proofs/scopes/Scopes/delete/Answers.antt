use Rattle.starlark_hash.proofs.Common.{ap, ◌∙◌}
use Rattle.starlark_uses.specs.Bindings.{lookup}
use Rattle.starlark_uses.proofs.Found.{lookup_deleted_other}
use Rattle.starlark_uses.proofs.scopes.Scopes.delete.Goals as goal

pub returns-clause-others : goal.returns-clause-others
returns-clause-others g c = λ other differ.
    lookup_deleted_other c.self.inside.innermost c.shift_remove.new.self c.self.inside.enclosing.items c.args.name.now c.shift_remove.ensures.updates other differ
    ∙ ap (λ b. lookup b other) c.self.view_is
