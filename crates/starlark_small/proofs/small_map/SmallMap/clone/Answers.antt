use Rattle.starlark_hash.proofs.Common.{sym, length_all_zip, ap, refl, ◌∙◌, rules, arith, common_steps, nat_lt}
use Rattle.starlark_small.specs.Index.{unindexed}
use Rattle.starlark_small.proofs.CallerCollect.{IsSingle-clones, found-clones}
use Rattle.starlark_small.proofs.CallerOwn.{own-clones}
use Rattle.starlark_small.proofs.small_map.SmallMap.clone.Goals as goal

pub invariant_of-result : goal.invariant_of-result
invariant_of-result g c = record {
  single = IsSingle-clones g.K.PartialEq.eq g.met.K.Eq.laws g.K.Clone.is_clone g.V.Clone.is_clone c.requires c.self.inside.entries.entries c.in_ok-entries.entries.entries
      c.in_ok-entries.ensures.entries c.self.invariant.single;
  indexed = c.in_ok-index.ensures.made.indexed;
}

pub returns : goal.returns
returns g c =
    let es = c.self.inside.entries.entries in
    let fs = c.in_ok-entries.entries.entries in
    let clones = c.in_ok-entries.ensures.entries in
    rw (← c.self.view_is) (record {
      clone = record {
        entries = search rules;
        same = search rules;
        found = found-clones g.K.PartialEq.eq g.met.K.Eq.laws g.K.Clone.is_clone g.V.Clone.is_clone c.requires es fs clones;
        own = λ feeds alike. own-clones feeds g.K.Clone.is_clone g.V.Clone.is_clone (λ x y is. alike x y (c.requires x y is)) es fs clones;
        capacity = search rules;
        indexed = c.in_ok-index.ensures.made.long ∙ ap (nat_lt unindexed) (sym (length_all_zip _ es fs clones));
      };
      succeeds = λ _. refl;
    })

pub returns-in_err-index : goal.returns-in_err-index
returns-in_err-index g c = record { clone = search rules; succeeds = grind (arith, common_steps) }
