use Rattle.starlark_hash.proofs.Common.{Some, ap, sym, ◌∙◌}
use Rattle.starlark_uses.specs.Interned.{number_of}
use Rattle.starlark_uses.proofs.Interning.{number_of-text, text_of-shown}
use Rattle.starlark_uses.proofs.interner.Interner.text.Goals as goal

pub returns-clause-number : goal.returns-clause-number
returns-clause-number c =
    ap (λ texts. number_of texts c.as_str.result.now) (sym c.self.view_is)
    ∙ number_of-text c.self.inside.texts.entries c.self.invariant c.as_str.result.now c.args.number
    (text_of-shown c.self.inside.texts.entries c.args.number (Some c.in_ok-text.text.now) c.in_ok-text.ensures ∙ ap Some (sym c.as_str.ensures.value))
