use Rattle.starlark_hash.proofs.Common.{ap, ◌∙◌}
use Rattle.starlark_uses.specs.Interned.{number_of}
use Rattle.starlark_uses.proofs.Interning.{found, numbered_so}
use Rattle.starlark_uses.proofs.interner.Interner.number.Goals as goal

pub returns-clause-number : goal.returns-clause-number
returns-clause-number c =
    c.get_index_of.ensures.index ∙ found c.self.inside.texts.entries c.self.invariant c.args.text.now ∙ ap (λ texts. number_of texts c.args.text.now) c.self.view_is

pub returns-clause-text : goal.returns-clause-text
returns-clause-text c =
    numbered_so c.args.self.now c.args.text.now c.get_index_of.result
    (c.get_index_of.ensures.index ∙ found c.self.inside.texts.entries c.self.invariant c.args.text.now ∙ ap (λ texts. number_of texts c.args.text.now) c.self.view_is)
