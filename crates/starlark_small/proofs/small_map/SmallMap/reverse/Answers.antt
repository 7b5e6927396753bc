use Rattle.starlark_hash.proofs.Common.{IsPermutation, arith, rules, subst, sym, common_steps, reverse, IsPermutation-reverse, length_permutation}
use Rattle.starlark_hash.specs.Entries.{IsSingle}
use Rattle.starlark_hash.proofs.EntryLemmas.{IsSingle-permutation}
use Rattle.starlark_small.proofs.CallerSort.{same-permuted}
use Rattle.starlark_small.proofs.CallerOwn.{own-permuted}
use Rattle.starlark_small.proofs.small_map.SmallMap.reverse.Goals as goal

pub invariant_of-self : goal.invariant_of-self
invariant_of-self g c =
    let es = c.self.inside.entries.entries in
    assumption (subst (λ l. IsSingle g.K.PartialEq.eq l.entries) (sym c.reverse_indexed.ensures.entries) (IsSingle-permutation g.K.PartialEq.eq g.met.K.Eq.laws es (reverse es) c.self.invariant.single (IsPermutation-reverse es)))

pub returns : goal.returns
returns g c =
    let es = c.self.inside.entries.entries in
    let moved = subst (λ l. IsPermutation es l.entries) (sym c.reverse_indexed.ensures.entries) (IsPermutation-reverse es) in
    record {
      entries = first_of (search rules, grind (arith, common_steps));
      count = rw (← c.self.view_is) (length_permutation es c.reverse_indexed.new.entries.entries moved);
      same = λ under key. rw (← c.self.view_is) (same-permuted g.K.PartialEq.eq g.met.K.Eq.laws _ _ c.self.invariant.single moved under key);
      own = λ feeds. rw (← c.self.view_is) (own-permuted feeds _ _ moved);
      kept = first_of (search rules, grind (arith, common_steps));
    }
