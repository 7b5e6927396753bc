use Rattle.starlark_hash.proofs.Common.{length, ◌≡◌, ◌∙◌, ◌-◌, ◌<◌, arith, rules, subst, sym, remove, common_steps}
use Rattle.starlark_hash.proofs.EntryLemmas.{IsSingle-remove}
use Rattle.starlark_small.specs.Index.{IsIndexed, IsSound}
use Rattle.starlark_small.proofs.Indexed.{IsIndexed-forgotten, last-forgotten}
use Rattle.starlark_small.proofs.CallerOwn.{own-removed}
use Rattle.starlark_small.proofs.CallerRemove.{last-taken, takes-out_last}
use Rattle.starlark_small.proofs.small_map.SmallMap.take_last.Goals as goal

pub returns-clause-takes : goal.returns-clause-takes
returns-clause-takes g c = rw (← c.self.view_is) (takes-out_last g.K.PartialEq.eq g.met.K.Eq.laws _ _ c.pop.result c.self.invariant.single c.pop.ensures.taken)

pub returns-clause-count : goal.returns-clause-count
returns-clause-count g c = first_of (search rules, grind (arith, common_steps))

pub returns-clause-removes : goal.returns-clause-removes
returns-clause-removes g c = record {
  entries = first_of (search rules, grind (arith, common_steps));
  own = λ feeds. own-removed feeds c.args.self.now.entries _ (length c.args.self.now.entries - 1) (first_of (search rules, grind (arith, common_steps)));
  kept = first_of (search rules, grind (arith, common_steps));
}

pub invariant_of-self : goal.invariant_of-self
invariant_of-self g c =
    let es = c.self.inside.entries.entries in
    let last = length es - 1 in
    let some : last < length es = grind (arith, common_steps, c.is_empty.ensures, c.if-is_empty.false) in
    let is : c.pop.new.self.entries ≡ remove es last = first_of (search rules, grind (arith, common_steps)) in
    subst (λ l. IsSound g.K.PartialEq.eq l c.forget_last.new.self) (sym is) (record {
      single = IsSingle-remove g.K.PartialEq.eq es last some c.self.invariant.single;
      indexed = subst (IsIndexed (remove es last)) (sym (c.forget_last.ensures ∙ last-forgotten es c.self.inside.index c.self.invariant.indexed)) (IsIndexed-forgotten es last c.self.inside.index some c.self.invariant.indexed);
    })

pub returns-clause-taken : goal.returns-clause-taken
returns-clause-taken g c = rw (← c.self.view_is) (last-taken c.self.inside.entries.entries c.pop.result c.pop.new.self.entries c.pop.ensures.taken)
