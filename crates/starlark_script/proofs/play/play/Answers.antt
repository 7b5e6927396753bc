use Rattle.starlark_hash.proofs.Common.{◌≡◌, ◌+◌, Err, ap, sym, ◌∙◌, prepend_known}
use Rattle.std.proofs.lemmas.Result.{err_from_is_err_and}
use Rattle.starlark_script.proofs.ScriptProgress.{going-start, going-kept, going-end, going-long, going-bad, going-stop, going-step, leads-line}
use Rattle.starlark_script.proofs.Results.{IfOk-weaker}
use Rattle.starlark_script.proofs.play.play.Goals as goal

pub loop-i-init : goal.loop-i-init
loop-i-init g c = rw (c.new-window.ensures, c.new-map.ensures.empty) (going-start (g.R.Read.remaining c.args.reader.now) (g.W.Write.contents c.args.writer.now))

pub returns-in-End-clause-ok : goal.returns-in-End-clause-ok
returns-in-End-clause-ok g c =
    let going = going-kept _ _ _ _ _ _ _ c.loop-i.invariant c.in_ok-find_line.ensures.kept in
    IfOk-weaker c.finish.result _ _ (λ u kept. going-end _ _ _ _ _ _ _ _ going (rw c.in-End.is at c.in_ok-find_line.ensures.shows) kept) c.finish.ensures.ok

pub returns-in-TooLong-clause-bad_line : goal.returns-in-TooLong-clause-bad_line
returns-in-TooLong-clause-bad_line g c = λ n e.
    let number : c.loop-i.i + 1 ≡ n = cc in
    let going = going-kept _ _ (prepend_known c.find_line.new.self (g.R.Read.remaining c.find_line.new.reader)) _ _ _ _ c.loop-i.invariant c.in_ok-find_line.ensures.kept in
    rw (← number) (going-long _ _ _ _ _ _ _ going (rw c.in-TooLong.is at c.in_ok-find_line.ensures.shows))

pub returns-in_default-clause-bad_line : goal.returns-in_default-clause-bad_line
returns-in_default-clause-bad_line g c = λ n e.
    let number : c.loop-i.i + 1 ≡ n = cc in
    let going = going-kept _ _ (prepend_known c.find_line.new.self (g.R.Read.remaining c.find_line.new.reader)) _ _ _ _ c.loop-i.invariant c.in_ok-find_line.ensures.kept in
    let leads = leads-line c.find_line.new.self c.in-Line.len (g.R.Read.remaining c.find_line.new.reader) (rw c.in-Line.is at c.in_ok-find_line.ensures.shows) in
    rw (← number) (going-bad _ _ _ _ _ _ _ _ going leads (rw c.bytes.ensures at c.in_default.ensures))

pub returns-in_err-answer-clause-memory : goal.returns-in_err-answer-clause-memory
returns-in_err-answer-clause-memory g c = λ e.
    let going = going-kept _ _ (prepend_known c.find_line.new.self (g.R.Read.remaining c.find_line.new.reader)) _ _ _ _ c.loop-i.invariant c.in_ok-find_line.ensures.kept in
    let leads = leads-line c.find_line.new.self c.in-Line.len (g.R.Read.remaining c.find_line.new.reader) (rw c.in-Line.is at c.in_ok-find_line.ensures.shows) in
    let p = err_from_is_err_and c.from_residual-in_err-answer.result c.from_residual-in_err-answer.ensures.1 in
    let was = ap Err (sym p.2) ∙ sym p.1 ∙ e in
    going-stop _ _ _ _ _ _ _ _ _ _ going leads (rw c.bytes.ensures at c.in-Some.ensures) (c.in_err-answer.ensures.needed was) (c.in_err-answer.ensures.memory was)

pub loop-i-preserved : goal.loop-i-preserved
loop-i-preserved g c =
    let going = going-kept _ _ (prepend_known c.find_line.new.self (g.R.Read.remaining c.find_line.new.reader)) _ _ _ _ c.loop-i.invariant c.in_ok-find_line.ensures.kept in
    let leads = leads-line c.find_line.new.self c.in-Line.len (g.R.Read.remaining c.find_line.new.reader) (rw c.in-Line.is at c.in_ok-find_line.ensures.shows) in
    rw c.skip_line.ensures (going-step _ _ _ _ _ _ _ _ _ _ _ going leads (rw c.bytes.ensures at c.in-Some.ensures) c.in_ok-answer.ensures.done c.in_ok-answer.ensures.replied)
