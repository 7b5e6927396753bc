use Rattle.starlark_hash.proofs.Common.{◌≡◌, Err, None, Ok, OnErr, ap, sym, ◌∙◌}
use Rattle.std.specs.declared.alloc.AllocError.{AllocError}
use Rattle.starlark_uses.specs.Interned.{interned, number_of, texts_in}
use Rattle.starlark_uses.proofs.Interning.{interns, one_text, text_of-number}
use Rattle.starlark_uses.proofs.interner.Interner.intern.Goals as goal

pub invariant_of-self-2 : goal.invariant_of-self-2
invariant_of-self-2 c =
    (interns {E = AllocError} c.self.inside.texts c.index_or_insert_owned.new.self c.args.text.now (Ok c.in_ok-number.number) c.self.invariant c.in_ok-number.ensures.set).0

pub returns-clause-number : goal.returns-clause-number
returns-clause-number c =
    (interns {E = AllocError} c.self.inside.texts c.index_or_insert_owned.new.self c.args.text.now (Ok c.in_ok-number.number) c.self.invariant c.in_ok-number.ensures.set).1.number

pub returns-clause-text : goal.returns-clause-text
returns-clause-text c =
    text_of-number (texts_in c.index_or_insert_owned.new.self.entries) c.args.text.now c.in_ok-number.number (interns {E = AllocError} c.self.inside.texts c.index_or_insert_owned.new.self c.args.text.now (Ok c.in_ok-number.number) c.self.invariant c.in_ok-number.ensures.set).1.number

pub returns-clause-different : goal.returns-clause-different
returns-clause-different c other has =
    one_text (texts_in c.index_or_insert_owned.new.self.entries) c.args.text.now other c.in_ok-number.number (interns {E = AllocError} c.self.inside.texts c.index_or_insert_owned.new.self c.args.text.now (Ok c.in_ok-number.number) c.self.invariant c.in_ok-number.ensures.set).1.number has

pub returns-clause-texts : goal.returns-clause-texts
returns-clause-texts c =
    (interns {E = AllocError} c.self.inside.texts c.index_or_insert_owned.new.self c.args.text.now (Ok c.in_ok-number.number) c.self.invariant c.in_ok-number.ensures.set).1.texts ∙ ap (λ t. interned t c.args.text.now) c.self.view_is

pub returns-clause-stable : goal.returns-clause-stable
returns-clause-stable c other number has =
    (interns {E = AllocError} c.self.inside.texts c.index_or_insert_owned.new.self c.args.text.now (Ok c.in_ok-number.number) c.self.invariant c.in_ok-number.ensures.set).1.stable other number (ap (λ t. number_of t other) c.self.view_is ∙ has)

pub returns-clause-others : goal.returns-clause-others
returns-clause-others c other differ =
    (interns {E = AllocError} c.self.inside.texts c.index_or_insert_owned.new.self c.args.text.now (Ok c.in_ok-number.number) c.self.invariant c.in_ok-number.ensures.set).1.others other differ ∙ ap (λ t. number_of t other) c.self.view_is

pub returns-in_err-number-clause-absent : goal.returns-in_err-number-clause-absent
returns-in_err-number-clause-absent c =
    let none = ap (λ t. number_of t c.args.text.now) (sym c.self.view_is) ∙ (interns {E = AllocError} c.self.inside.texts c.index_or_insert_owned.new.self c.args.text.now (Err c.in_err-number.field-0.0) c.self.invariant c.in_err-number.ensures.set).1.absent in
    elim c.from_residual.result as (λ r. OnErr r (number_of c.args.self.now c.args.text.now ≡ None)) [ Ok number ↦ tt | Err e ↦ none ]
