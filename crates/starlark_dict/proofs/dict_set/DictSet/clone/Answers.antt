use Rattle.starlark_hash.proofs.Common.{ap, false≢true, refl, sym, ◌∙◌}
use Rattle.std_collections.proofs.SetKeys.{clones_seen, contains_seen, no_keys}
use Rattle.starlark_dict.proofs.dict_set.DictSet.clone.Goals as goal

pub returns-in_err-dict-clause-succeeds : goal.returns-in_err-dict-clause-succeeds
returns-in_err-dict-clause-succeeds g c = λ empty. absurd (false≢true (c.in_err-dict.ensures.succeeds (no_keys c.self.inside.dict.entries (ap (λ s. s.keys) c.self.view_is ∙ empty))))

pub returns-clause-clones : goal.returns-clause-clones
returns-clause-clones g c = rw (← c.self.view_is) (clones_seen g.T.Clone.is_clone _ c.self.inside.dict.entries c.in_ok-dict.dict.entries c.in_ok-dict.ensures.clones)

pub returns-clause-members : goal.returns-clause-members
returns-clause-members g c =
    let eq = g.T.PartialEq.eq in
    rw (← c.self.view_is) (λ element. sym (contains_seen c.in_ok-dict.dict.entries refl (eq element)) ∙ c.in_ok-dict.ensures.keys element ∙ contains_seen c.self.inside.dict.entries refl (eq element))
