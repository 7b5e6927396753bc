use Rattle.starlark_hash.proofs.Common.{◌≡◌, ◌∙◌, ap, subst, List, ℕ, ◌++◌, Appends}
use Rattle.core.proofs.fmt.Output.{contents_after_writes}
use Rattle.std.specs.Fmt.{with_newline, WritesInCalls}
use Rattle.arrayvec.specs.ArrayString.{ArrayString}
use Rattle.starlark_script.proofs.TextWrites.{IfSome-weaker, OnOk-weaker, IfSome-known}
use Rattle.starlark_script.proofs.output.write_line.Goals as goal

pub returns-in-Ok-clause-ok : goal.returns-in-Ok-clause-ok
returns-in-Ok-clause-ok g c =
    let took = λ (s : ArrayString) (bs : List ℕ) (t : ArrayString). t.bytes ≡ s.bytes ++ bs in
    let text = with_newline (g.D.Display.output c.args.text) in
    let line = c.writeln.new.self in
    let bytes = IfSome-weaker text (λ bs. WritesInCalls took c.new-line.result bs line) (λ bs. line.bytes ≡ bs)
    (λ bs k. contents_after_writes took (λ s. s.bytes) (λ s xs t e. e) _ bs _ k ∙ ap (λ xs. xs ++ bs) c.new-line.ensures) c.in-Ok.ensures.writes in
    OnOk-weaker c.write_text.result _ _ (λ sent. IfSome-known text _ line.bytes bytes (subst (Appends _ _) c.as_str.ensures.value sent)) c.write_text.ensures.ok
