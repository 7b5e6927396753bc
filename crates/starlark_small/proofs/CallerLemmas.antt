-- One name, `callers`, for what a caller's proof wants of a `SmallMap`: what holds after an insertion, a write and a removal.
use Rattle.starlark_hash.proofs.Common.{length_push, length-append, length-drop, length-take, map-append}
use Rattle.std.specs.Cmp.{int_eq_equiv, nat_eq_equiv}
use Rattle.std.specs.String.{string_eq_equiv}
use Rattle.starlark_hash.proofs.EntryLemmas.{length-set_value_at}
use Rattle.starlark_small.proofs.CallerLookup.{keys-set_value_at, is_some-value_at}
use Rattle.starlark_small.proofs.CallerMembers.{members}

pub ruleset callers = (members, nat_eq_equiv, int_eq_equiv, string_eq_equiv, length-set_value_at, keys-set_value_at, is_some-value_at, length_push, map-append, length-append, length-take, length-drop)
