use Rattle.starlark_hash.proofs.Common.{◌≡◌, Ok, rules, refl, sym, ap, subst₂, ◌∙◌, Appends}
use Rattle.std.specs.Fmt.{with_newline, WritesOnOk}
use Rattle.std.proofs.KnownBytes.{Appends-of_writes}
use Rattle.starlark_script.specs.declared.output.Output.{Output}
use Rattle.starlark_script.proofs.TextWrites.{IfSome-weaker}
use Rattle.starlark_script.proofs.output.write_in_parts.Goals as goal

pub returns-in-Ok-clause-ok : goal.returns-in-Ok-clause-ok
returns-in-Ok-clause-ok g c =
    let held = g.W.Write.contents in
    let given = c.new-line.ensures.writer in
    let back = c.into_inner-writer.ensures in
    IfSome-weaker (with_newline (g.D.Display.output c.args.text))
    (λ bs. WritesOnOk (λ (s : Output g.row.W.Denot) text t. (t.writer.ghost_name ≡ s.writer.ghost_name) × Appends (held s.writer.now) (held t.writer.now) text) c.new-line.result (Ok c.in-Ok.field-0) bs c.writeln-written.new.self)
    _
    (λ bs k.
    let (same, appended) = Appends-of_writes (λ s. s.writer.ghost_name) (λ s. held s.writer.now) _ bs _ (k c.new-line.ensures.plain refl).wrote in
    let name = ap (λ s. s.writer.ghost_name) back ∙ same ∙ ap (λ s. s.writer.ghost_name) given in
    let bytes = subst₂ (λ s t. Appends (held s.writer.now) (held t.writer.now) bs) given (sym back) appended in
    search rules)
    c.in-Ok.ensures.writes
