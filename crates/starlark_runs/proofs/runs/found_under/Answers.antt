use Rattle.starlark_hash.proofs.Common.{Some}
use Rattle.starlark_hash.specs.HashValue.{hash_of, key_of}
use Rattle.starlark_small.proofs.CallerLookup.{entry_at-found}
use Rattle.starlark_runs.proofs.RunLemmas.{shown-by_call, takes-at_call}
use Rattle.starlark_runs.proofs.runs.found_under.Goals as goal

pub look-requires : goal.look-requires
look-requires g c =
    let key = c.args.key.now in
    let is = c.in-Some.ensures in
    takes-at_call g.F.Fn c.args.look.now _ c.in-Some.key c.in-Some.value
    (entry_at-found (g.K.PartialEq.eq (key_of key)) (hash_of key) c.args.map.now.entries (Some (c.in-Some.key.now, c.in-Some.value.now))
    (rw (← c.as_ref.ensures.hash, ← c.as_ref.ensures.key) is.key) (rw (← c.as_ref.ensures.hash, ← c.as_ref.ensures.key) is.value))
    c.requires

pub returns-in-Some-clause-shown : goal.returns-in-Some-clause-shown
returns-in-Some-clause-shown g c =
    let key = c.args.key.now in
    let is = c.in-Some.ensures in
    shown-by_call g.F.Fn c.args.look.now _ c.in-Some.key c.in-Some.value _
    (entry_at-found (g.K.PartialEq.eq (key_of key)) (hash_of key) c.args.map.now.entries (Some (c.in-Some.key.now, c.in-Some.value.now))
    (rw (← c.as_ref.ensures.hash, ← c.as_ref.ensures.key) is.key) (rw (← c.as_ref.ensures.hash, ← c.as_ref.ensures.key) is.value))
    c.look.ensures
