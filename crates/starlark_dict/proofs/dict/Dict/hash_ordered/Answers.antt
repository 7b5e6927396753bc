use Rattle.starlark_hash.proofs.Common.{ap, fold, ◌∙◌}
use Rattle.starlark_dict.proofs.Compared.{pairs-feed}
use Rattle.starlark_dict.proofs.dict.Dict.hash_ordered.Goals as goal

pub returns : goal.returns
returns g c =
    rw (← c.self.view_is)
    (c.hash_ordered.ensures ∙ ap (fold g.H.Hasher.write c.args.state.now) (pairs-feed g.K.Hash.hash_input g.V.Hash.hash_input c.self.inside.map.entries c.self.invariant))
