use Rattle.starlark_hash.proofs.Common.{refl, sym, ◌∙◌}
use Rattle.std.specs.Bool.{one_answer}
use Rattle.std.specs.HashMap.Eq.{hash_map_eq_keys}
use Rattle.std.specs.HashSet.Eq.{hash_set_eq_decides}
use Rattle.std_collections.proofs.SetKeys.{contains_seen}
use Rattle.std_collections.specs.Layout.HashSet.{key_set}
use Rattle.starlark_dict.proofs.dict_set.compare.DictSetPartialEq.eq.Goals as goal

pub returns : goal.returns
returns g c =
    let m = c.self.inside.dict in
    let n = c.other.inside.dict in
    let mine = λ (q : g.row.T.Denot). contains_seen m.entries refl (g.T.PartialEq.eq q) in
    let theirs = λ (q : g.row.T.Denot). contains_seen n.entries refl (g.T.PartialEq.eq q) in
    let maps = hash_map_eq_keys g.met.T.Eq.laws m n in
    rw (← c.self.view_is, ← c.other.view_is)
    (c.eq.ensures ∙ one_answer _ _ (λ h q. sym (mine q) ∙ maps.0 h q ∙ theirs q, λ h. maps.1 (λ q. mine q ∙ h q ∙ sym (theirs q))) (hash_set_eq_decides g.met.T.Eq.laws (key_set m) (key_set n)))
