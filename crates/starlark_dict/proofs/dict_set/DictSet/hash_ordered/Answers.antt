use Rattle.starlark_hash.proofs.Common.{[], ap, fold, sym, ◌∙◌}
use Rattle.starlark_dict.specs.Compare.{ordered_feed}
use Rattle.starlark_dict.proofs.Elements.{as_dict-keys}
use Rattle.starlark_dict.proofs.dict_set.DictSet.hash_ordered.Goals as goal

pub returns : goal.returns
returns g c =
    rw (← c.self.view_is) (c.hash_ordered.ensures ∙ ap (λ d. fold g.H.Hasher.write c.args.state.now (ordered_feed g.T.Hash.hash_input (λ _. []) d.entries)) (sym (as_dict-keys c.self.inside.dict)))
