use Rattle.starlark_hash.proofs.Common.{Some, ◌∙◌, refl}
use Rattle.starlark_dict.proofs.EntryLemmas.{dict-written, value-pair}
use Rattle.starlark_dict.proofs.OwnPairs.{own-written}
use Rattle.starlark_dict.proofs.dict.Dict.value_at_mut.Goals as goal

pub invariant_of-self-lent : goal.invariant_of-self-lent
invariant_of-self-lent g c w = own-written g.K.Hash.hash_input c.self.inside.map.entries (Some c.args.index) w c.self.invariant

pub returns : goal.returns
returns g c =
    let m = c.self.inside.map in
    let i = c.args.index in
    rw (← c.self.view_is) ((refl, λ w. dict-written m i w), record { writes_back = tt; value = value-pair m.entries i ∙ c.value_at_mut.ensures.value })
