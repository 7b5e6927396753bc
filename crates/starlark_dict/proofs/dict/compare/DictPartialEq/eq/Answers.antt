use Rattle.starlark_hash.proofs.Common.{◌∙◌}
use Rattle.starlark_dict.proofs.Compared.{pairs-same}
use Rattle.starlark_dict.proofs.OwnPairs.{unique-own}
use Rattle.starlark_dict.proofs.dict.compare.DictPartialEq.eq.Goals as goal

pub returns : goal.returns
returns g c =
    let eq = g.K.PartialEq.eq in
    let feeds = g.K.Hash.hash_input in
    let alike = g.met.K.Hash.respects_eq in
    let m = c.self.inside.map in
    let n = c.other.inside.map in
    let mine = c.self.invariant in
    let theirs = c.other.invariant in
    rw (← c.self.view_is, ← c.other.view_is)
    (c.eq.ensures ∙ pairs-same eq feeds alike g.V.PartialEq.eq g.met.K.Eq.laws m n mine theirs (unique-own eq feeds alike m.entries c.iter_hashed.ensures.single mine) (unique-own eq feeds alike n.entries c.iter_hashed-2.ensures.single theirs))
