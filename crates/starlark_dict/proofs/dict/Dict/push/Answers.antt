use Rattle.starlark_hash.proofs.Common.{◌∙◌, ap, sym}
use Rattle.starlark_hash.specs.HashValue.{hash_of, key_of}
use Rattle.starlark_dict.specs.Dict.{get}
use Rattle.starlark_dict.proofs.OwnPairs.{found-own, same_hash}
use Rattle.starlark_dict.proofs.dict.Dict.push.Goals as goal

pub push-requires : goal.push-requires
push-requires g c =
    let eq = g.K.PartialEq.eq in
    let feeds = g.K.Hash.hash_input in
    let key = c.args.key in
    found-own feeds (eq (key_of key)) (hash_of key) (λ k same. same_hash eq feeds g.met.K.Hash.respects_eq (key_of key) k same ∙ sym c.requires.own) c.self.inside.map.entries c.self.invariant
    ∙ ap (λ d. get eq d (key_of key)) c.self.view_is ∙ c.requires.absent
