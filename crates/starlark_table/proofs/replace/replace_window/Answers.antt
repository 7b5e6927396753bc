use Rattle.starlark_hash.proofs.Common.{refl}
use Rattle.std.proofs.lemmas.Fn.{called_at}
use Rattle.starlark_table.proofs.FullBits.{window_opens}
use Rattle.starlark_table.proofs.GroupReplacement.{replacing-begins, replacing-finds, replacing-asks, replacing-goes_on, replacing-ends}
use Rattle.starlark_table.proofs.replace.replace_window.Goals as goal

pub members-init : goal.members-init
members-init g c = search (replacing-begins g.F.FnMut, window_opens)

pub get_mut-requires : goal.get_mut-requires
get_mut-requires g c = replacing-finds g.F.FnMut _ _ _ _ _ _ _ _ c.members.invariant c.members-test.true refl

pub f-requires : goal.f-requires
f-requires g c = replacing-asks g.F.FnMut _ _ _ _ _ _ _ _ c.members.invariant c.members-test.true refl _ c.get_mut.ensures.value c.requires.callable _ refl

pub members-preserved : goal.members-preserved
members-preserved g c = search (replacing-goes_on g.F.FnMut, called_at g.F.FnMut c.f.ensures refl)

pub returns-clause-replaced : goal.returns-clause-replaced
returns-clause-replaced g c = search (replacing-ends g.F.FnMut)
