use Rattle.starlark_hash.proofs.Common.{IfSome, None, ap, false, keys_of, length, option_map, refl, slice_get-map, subst, sym, ◌-◌, ◌∙◌}
use Rattle.std_collections.proofs.SetKeys.{updates_seen}
use Rattle.std_collections.specs.Layout.HashSet.{key_set}
use Rattle.starlark_vecmap.proofs.Views.{map-remove}
use Rattle.starlark_dict.specs.DictSet.{Updates}
use Rattle.starlark_dict.proofs.Elements.{if_alone, keeps_memory, length-keys}
use Rattle.starlark_dict.proofs.dict_set.DictSet.pop.Goals as goal

pub returns : goal.returns
returns g c =
    let eq = g.T.PartialEq.eq in
    let old = c.self.inside.dict in
    let new = c.pop.new.self in
    let es = old.entries in
    let e = c.pop.ensures in
    let gone : g.row.T.Denot → Type 0 = λ x. Updates eq (key_set old) (key_set new) x false in
    rw (← c.self.view_is, length-keys es)
    (record {
      element = c.alone.ensures ∙ ap (option_map (λ p. p.0)) e.entry ∙ sym (slice_get-map (λ p. p.0) es (length es - 1));
      updates = subst (λ r. IfSome r gone) (sym c.alone.ensures) (if_alone c.pop.result _ gone (λ p now. updates_seen es refl new.entries eq (eq p.0) None now) e.updates);
      elements = ap keys_of e.entries ∙ map-remove (λ p. p.0) es (length es - 1);
      memory = rw (← length-keys es) (keeps_memory old new e.memory);
    })
