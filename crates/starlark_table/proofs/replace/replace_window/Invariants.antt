use Rattle.starlark_table.proofs.GroupReplacement.{ReplacingWindow}
use Rattle.starlark_table.proofs.replace.replace_window.Given as goal

abbrev pub invariant-members : goal.invariant-members
invariant-members g l = ReplacingWindow g.F.FnMut l.initial.f l.initial.slots l.slots l.f l.start l.end l.full

abbrev pub decreases-members : goal.decreases-members
decreases-members g l = l.full
