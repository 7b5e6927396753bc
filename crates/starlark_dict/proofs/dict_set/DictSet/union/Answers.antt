use Rattle.starlark_hash.proofs.Common.{ap, arith, is_member, length, length-append, subst, sym, ◌++◌, ◌∙◌}
use Rattle.std.specs.List.{IsDistinct}
use Rattle.std.specs.Map.Iter.{deref}
use Rattle.std_collections.proofs.DistinctSets.{IsDistinct-union, append_is_union}
use Rattle.std_collections.proofs.IterRuns.{shows_in_order}
use Rattle.starlark_dict.proofs.dict_set.DictSet.union.Goals as goal

pub returns : goal.returns
returns g c =
    let eq = g.T.PartialEq.eq in
    let xs = c.args.self.now.keys in
    let ys = c.args.other.now.keys in
    let e = c.iter.ensures in
    let more = c.difference.result in
    let d = c.difference.ensures in
    let rest = ap (λ l. l ++ more) e.elements in
    record {
      rest = rest ∙ ap (λ l. xs ++ l) d.rest;
      members = λ q. ap (λ l. is_member eq l q) rest ∙ append_is_union eq xs ys more d.members q;
      unique = subst (IsDistinct eq) (sym rest) (IsDistinct-union g.met.T.Eq.laws xs ys more e.unique d.unique d.members);
      bound = omega (arith, ap length rest, length-append xs more, d.bound);
      fits = omega (arith, ap length rest, length-append xs more, d.fits, e.fits);
      runs = shows_in_order deref;
    }
