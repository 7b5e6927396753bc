use Rattle.starlark_hash.proofs.Common.{CalledAt, TakesAt, arith, of_calls, refl, rules, subst, sym, ◌∙◌, ◌≡◌}
use Rattle.std.specs.Map.Calls.{RetainsPairs}
use Rattle.std_collections.proofs.SetKeys.{contains_seen}
use Rattle.std_collections.proofs.SetRetain.{retains_keys}
use Rattle.starlark_dict.proofs.Elements.{keeps_memory, length-keys}
use Rattle.starlark_dict.proofs.KeptElements.{callable_on_pairs, callable_seen, keys_filtered, retains_seen}
use Rattle.starlark_dict.specs.Retain.{CallableOnEach}
use Rattle.starlark_dict.proofs.dict_set.DictSet.retain.Goals as goal

pub retain-requires : goal.retain-requires
retain-requires g c =
    callable_seen _ (λ f k v b w f'. CalledAt g.F.FnMut f k b f') (λ s. s.0.now) (λ f k v b w f' t. subst (λ x. CalledAt g.F.FnMut f.0.now x b f'.0.now) t.shows.0 (search (rules, of_calls, t.called)))
    _ (λ f k v. TakesAt g.F.FnMut f k) (λ f k v takes p q at_key at_value x is. takes x (is ∙ at_key))
    _ c.self.inside.dict.entries (callable_on_pairs g.F.FnMut c.args.keep c.self.inside.dict.entries (subst (λ s. CallableOnEach g.F.FnMut c.args.keep s.keys) (sym c.self.view_is) c.requires))

pub returns : goal.returns
returns g c =
    let es = c.self.inside.dict.entries in
    let new = c.retain.new.self in
    let e = c.retain.ensures in
    let kept : RetainsPairs (λ f k v b w f'. CalledAt g.F.FnMut f k b f') c.args.keep es new.entries =
    retains_seen _ (λ f k v b w f'. CalledAt g.F.FnMut f k b f') (λ s. s.0.now) (λ f k v b w f' t. subst (λ x. CalledAt g.F.FnMut f.0.now x b f'.0.now) t.shows.0 (search (rules, of_calls, t.called))) _ es new.entries e.retains in
    rw (← c.self.view_is)
    (record {
      retains = retains_keys g.F.FnMut c.args.keep es new.entries kept;
      fewer = omega (arith, e.fewer, length-keys es, length-keys new.entries);
      no_new = λ element there. sym (contains_seen es refl (g.T.PartialEq.eq element)) ∙ e.no_new element (contains_seen new.entries refl (g.T.PartialEq.eq element) ∙ there);
      filtered = λ test says. keys_filtered g.F.FnMut test (λ f. Unit {0}) (λ f k b f' so called. (says f k b f' called, tt)) c.args.keep tt es new.entries kept;
      tested = λ test says. keys_filtered g.F.FnMut test (λ f. f ≡ c.args.keep) (λ f k b f' same called. says k b f' (subst (λ h. CalledAt g.F.FnMut h k b f') same called)) c.args.keep refl es new.entries kept;
      memory = keeps_memory c.self.inside.dict new e.memory;
      unique = e.unique;
    })
