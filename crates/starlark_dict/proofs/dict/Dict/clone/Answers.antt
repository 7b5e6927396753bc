use Rattle.starlark_hash.proofs.Common.{◌∙◌, ap, is_some, sym}
use Rattle.starlark_hash.specs.Hasher.{own_hash}
use Rattle.starlark_dict.proofs.Collected.{clones-pairs}
use Rattle.starlark_dict.proofs.Inserted.{old-value}
use Rattle.starlark_dict.proofs.dict.Dict.clone.Goals as goal

pub returns-clause-clones : goal.returns-clause-clones
returns-clause-clones g c = rw (← c.self.view_is) (clones-pairs g.K.Clone.is_clone g.V.Clone.is_clone c.self.inside.map.entries c.in_ok-map.map.entries c.in_ok-map.ensures.clone.entries)

pub returns-clause-keys : goal.returns-clause-keys
returns-clause-keys g c =
    let eq = g.K.PartialEq.eq in
    let feeds = g.K.Hash.hash_input in
    let alike = g.met.K.Hash.respects_eq in
    let own = c.self.invariant in
    let e = c.in_ok-map.ensures.clone in
    rw (← c.self.view_is) (λ key.
    ap is_some (sym (old-value eq feeds alike key c.in_ok-map.map (e.own feeds alike own))) ∙ e.found (own_hash feeds key) key ∙ ap is_some (old-value eq feeds alike key c.self.inside.map own))
