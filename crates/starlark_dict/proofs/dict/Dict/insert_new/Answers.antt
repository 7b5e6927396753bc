use Rattle.starlark_hash.proofs.Common.{refl}
use Rattle.starlark_hash.specs.HashValue.{key_of}
use Rattle.starlark_dict.proofs.EntryLemmas.{value-appended, written-appended}
use Rattle.starlark_dict.proofs.dict.Dict.insert_new.Goals as goal

pub returns-in-Ok : goal.returns-in-Ok
returns-in-Ok g c =
    let old = c.args.self.now in
    let new = c.push.new.self in
    let key = key_of c.args.key in
    let i = c.in-Ok.ensures.index in
    let put = c.in-Ok.ensures.appended in (
      (refl, written-appended old new key c.args.value c.in-Ok.index i put, tt),
      record { writes_back = tt; value = value-appended old new key c.args.value c.in-Ok.index i put c.value_at_mut.result.now c.value_at_mut.ensures.value; full = tt; handed_back = tt },
    )
